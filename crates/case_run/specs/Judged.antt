-- What the grades of its cases make of a rule.
use Rattle.std.specs.Prelude.{ℕ, List, map, filter, count_by, Bool, ◌==◌, if◌then◌else◌}
use Rattle.std.specs.List.{list_any, zip}
use Rattle.rule_core.specs.declared.info.RuleNo.{RuleNo}
use Rattle.case_run.specs.declared.case.Case.{Case}
use Rattle.case_run.specs.declared.grading.Grade.{Grade}
use Rattle.case_run.specs.declared.grading.Grade.TheVariants.{Untold, Wrong}
use Rattle.case_run.specs.declared.grading.Graded.{Graded}
use Rattle.case_run.specs.declared.marks.Fares.{Fares}
use Rattle.case_run.specs.declared.marks.Fares.TheVariants.{Consistent, Partial, Inconsistent}
use Rattle.case_run.specs.declared.marks.Mark.{Mark}
use Rattle.case_run.specs.Grades.{is_grade}

-- the rule of a case with the case's grade
abbrev pub mark_of : Case → Graded → Mark
mark_of c graded = record { rule = c.rule; grade = graded.grade }

-- the marks of cases, each with its own
abbrev pub marks_of : List Case → List Graded → List Mark
marks_of cases graded = map (λ p. mark_of p.0 p.1) (zip cases graded)

abbrev pub is_under : RuleNo → Mark → Bool
is_under rule mark = mark.rule.0 == rule.0

-- the marks of a rule
abbrev pub marks_under : RuleNo → List Mark → List Mark
marks_under rule marks = filter (is_under rule) marks

abbrev pub has_grade : Grade → Mark → Bool
has_grade grade mark = is_grade grade mark.grade

-- how many marks have a grade
abbrev pub count_of : Grade → List Mark → ℕ
count_of grade marks = count_by (has_grade grade) marks

-- Inconsistent where some case is Wrong, else Partial where some is Untold, else Consistent
abbrev pub fares_of : List Mark → Fares
fares_of marks = if list_any (has_grade Wrong) marks then Inconsistent else if list_any (has_grade Untold) marks then Partial else Consistent
