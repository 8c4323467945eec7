-- The words of expected and actual outcomes, of grades, and of what the grades make of a rule.
use Rattle.std.specs.Prelude.{ℕ, List, codes, bytes_eq, Option, Some, None, if◌then◌else◌}
use Rattle.case_run.specs.declared.case.Expected.{Expected}
use Rattle.case_run.specs.declared.case.Expected.TheVariants as expected
use Rattle.case_run.specs.declared.grading.Actual.{Actual}
use Rattle.case_run.specs.declared.grading.Actual.TheVariants as actual
use Rattle.case_run.specs.declared.grading.Grade.{Grade}
use Rattle.case_run.specs.declared.grading.Grade.TheVariants.{Correct, Untold, Wrong}
use Rattle.case_run.specs.declared.marks.Fares.{Fares}
use Rattle.case_run.specs.declared.marks.Fares.TheVariants.{Consistent, Partial, Inconsistent}

abbrev pub expected_word : Expected → List ℕ
expected_word expected.Passed = codes "passed"
expected_word expected.Failed = codes "failed"
expected_word expected.Inapplicable = codes "inapplicable"

-- what a word says that is expected; exactly these words, in this case
abbrev pub expected_named : List ℕ → Option Expected
expected_named word =
    if bytes_eq word (codes "passed") then Some expected.Passed
    else if bytes_eq word (codes "failed") then Some expected.Failed
    else if bytes_eq word (codes "inapplicable") then Some expected.Inapplicable
    else None

abbrev pub actual_word : Actual → List ℕ
actual_word actual.Passed = codes "passed"
actual_word actual.Failed = codes "failed"
actual_word actual.CantTell = codes "cantTell"
actual_word actual.Inapplicable = codes "inapplicable"

abbrev pub grade_word : Grade → List ℕ
grade_word Correct = codes "correct"
grade_word Untold = codes "untold"
grade_word Wrong = codes "wrong"

abbrev pub fares_word : Fares → List ℕ
fares_word Consistent = codes "consistent"
fares_word Partial = codes "partial"
fares_word Inconsistent = codes "inconsistent"
