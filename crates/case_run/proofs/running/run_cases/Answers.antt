use Rattle.std.proofs.Common.{map, ap, ◌∙◌}
use Rattle.std.specs.List.{zip}
use Rattle.rule_core.specs.Books.{Book}
use Rattle.judge_core.specs.declared.outcomes.Outcomes.{Outcomes}
use Rattle.audit.specs.Pages.{pages_outcomes}
use Rattle.case_run.specs.declared.case.Case.{Case}
use Rattle.case_run.specs.Grades.{graded_by}
use Rattle.case_run.proofs.Findings.{graded_each}
use Rattle.case_run.proofs.running.run_cases.Goals as goal

pub returns-clause-graded : goal.returns-clause-graded
returns-clause-graded g c =
    let book : Book = g.B.RuleBook.book in
    let cases = c.args.cases.now in
    let found = c.as_slice-2.ensures.value ∙ c.in_ok-outcomes.ensures.outcomes ∙ ap (pages_outcomes book) (c.as_slice.ensures.value ∙ c.in_ok-works.ensures) in
    c.from_vec.ensures ∙ c.in_ok-graded.ensures ∙ ap (λ outcomes. map (λ (p : Case × Outcomes). graded_by p.0 p.1.rows) (zip cases outcomes)) found ∙ graded_each book cases
