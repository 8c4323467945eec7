-- What is found of a case, and how that compares with what is expected.
use Rattle.std.specs.Prelude.{ℕ, List, [], map, sum_by, bytes_eq, Bool, true, false, ◌==◌, ◌&&◌, if◌then◌else◌}
use Rattle.std.specs.List.{list_any}
use Rattle.rule_core.specs.declared.info.RuleNo.{RuleNo}
use Rattle.rule_core.specs.declared.verdict.Auto.{Auto}
use Rattle.rule_core.specs.declared.verdict.Auto.TheVariants as auto
use Rattle.rule_core.specs.Books.{Book}
use Rattle.judge_core.specs.declared.outcomes.OutRow.{OutRow}
use Rattle.judge_core.specs.Outcomes.{outcomes, judgings}
use Rattle.case_run.specs.declared.case.Case.{Case}
use Rattle.case_run.specs.declared.case.Expected.{Expected}
use Rattle.case_run.specs.declared.grading.Actual.{Actual}
use Rattle.case_run.specs.declared.grading.Actual.TheVariants.{Passed, Failed, CantTell, Inapplicable}
use Rattle.case_run.specs.declared.grading.Grade.{Grade}
use Rattle.case_run.specs.declared.grading.Grade.TheVariants.{Correct, Untold, Wrong}
use Rattle.case_run.specs.declared.grading.Graded.{Graded}
use Rattle.case_run.specs.Words.{expected_word, actual_word}

-- ---- the actual outcome

abbrev pub is_of : RuleNo → OutRow → Bool
is_of rule row = row.rule.0 == rule.0

abbrev pub is_auto : Auto → Auto → Bool
is_auto auto.Passed auto.Passed = true
is_auto auto.Failed auto.Failed = true
is_auto auto.CantTell auto.CantTell = true
is_auto wanted found = false

-- some row of the rule has this automatic outcome
abbrev pub has_auto : RuleNo → Auto → List OutRow → Bool
has_auto rule wanted rows = list_any (λ row. is_of rule row && is_auto wanted row.auto) rows

-- The actual outcome over the rows of a rule, by their automatic outcomes: Failed where some is, else CantTell where some
-- is, else Passed where there is a row, else Inapplicable.
abbrev pub actual_of : RuleNo → List OutRow → Actual
actual_of rule rows =
    if has_auto rule auto.Failed rows then Failed
    else if has_auto rule auto.CantTell rows then CantTell
    else if list_any (is_of rule) rows then Passed
    else Inapplicable

-- ---- the grade

-- Correct where the actual outcome has the name of the expected one
abbrev pub compared : Expected → Actual → Grade
compared expected found = if bytes_eq (actual_word found) (expected_word expected) then Correct else Wrong

-- the grade: Untold where the actual outcome is CantTell
abbrev pub grade_of : Expected → Actual → Grade
grade_of expected CantTell = Untold
grade_of expected found = compared expected found

abbrev pub is_grade : Grade → Grade → Bool
is_grade Correct Correct = true
is_grade Untold Untold = true
is_grade Wrong Wrong = true
is_grade wanted found = false

-- ---- cases

-- what is found of a case whose tree has these outcomes
abbrev pub graded_by : Case → List OutRow → Graded
graded_by c rows = record { actual = actual_of c.rule rows; grade = grade_of c.expected (actual_of c.rule rows) }

-- what a book finds of a case, without judgements
abbrev pub graded_of : Book → Case → Graded
graded_of book c = graded_by c (outcomes book c.tree [])

abbrev pub all_graded : Book → List Case → List Graded
all_graded book cases = map (graded_of book) cases

-- the judgings of all cases: the atomic rules times the nodes of each
abbrev pub cases_judgings : Book → List Case → ℕ
cases_judgings book cases = sum_by (λ c. judgings book c.tree) cases

-- some grade is Wrong
abbrev pub has_wrong : List Graded → Bool
has_wrong graded = list_any (λ g. is_grade Wrong g.grade) graded
