-- What is found of cases is what is found of their pages.
use Rattle.std.proofs.Common.{◌≡◌, ◌+◌, List, [], ◌∷◌, map, refl, ap}
use Rattle.std.specs.List.{zip}
use Rattle.std.proofs.lemmas.List.Folds.{fold-map}
use Rattle.rule_core.specs.Books.{Book}
use Rattle.judge_core.specs.declared.outcomes.Outcomes.{Outcomes}
use Rattle.judge_core.specs.Outcomes.{judgings}
use Rattle.audit.specs.declared.pages.PageWork.{PageWork}
use Rattle.audit.specs.Pages.{pages_outcomes, pages_judgings}
use Rattle.case_run.specs.declared.case.Case.{Case}
use Rattle.case_run.specs.Grades.{graded_by, graded_of, all_graded, cases_judgings}
use Rattle.case_run.specs.Works.{work_of}

-- the judgings of cases are those of their pages
pub works_within : (book : Book) (cases : List Case) → pages_judgings book (map work_of cases) ≡ cases_judgings book cases
works_within book cases = fold-map (λ n (page : PageWork). n + judgings book page.tree) work_of 0 cases

-- each case is graded by its own outcomes
pub graded_each : (book : Book) (cases : List Case) → map (λ (p : Case × Outcomes). graded_by p.0 p.1.rows) (zip cases (pages_outcomes book (map work_of cases))) ≡ all_graded book cases
graded_each book [] = refl
graded_each book (c ∷ cases) = ap (λ rest. graded_of book c ∷ rest) (graded_each book cases)
