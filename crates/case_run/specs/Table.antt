-- The table of cases with their grades.
use Rattle.std.specs.Prelude.{ℕ, List, [], ◌++◌, ◌==◌, length, codes, decimal, if◌then◌else◌}
use Rattle.std.specs.List.{flat_map, zip}
use Rattle.std.specs.Option.{option_map_or}
use Rattle.rule_core.specs.declared.info.RuleNo.{RuleNo}
use Rattle.rule_core.specs.declared.info.RuleInfo.{RuleInfo}
use Rattle.rule_core.specs.Infos.{info_of}
use Rattle.case_run.specs.declared.case.Case.{Case}
use Rattle.case_run.specs.declared.case.Expected.{Expected}
use Rattle.case_run.specs.declared.grading.Grade.TheVariants.{Correct, Untold, Wrong}
use Rattle.case_run.specs.declared.grading.Graded.{Graded}
use Rattle.case_run.specs.declared.marks.Mark.{Mark}
use Rattle.case_run.specs.Words.{expected_word, actual_word, grade_word, fares_word}
use Rattle.case_run.specs.Judged.{marks_of, marks_under, count_of, fares_of}

-- ---- the line of a case

-- the id of the rule of a number; none where there is no such rule
abbrev pub rule_id : List RuleInfo → RuleNo → List ℕ
rule_id infos rule = option_map_or (λ info. info.id) (info_of infos rule.0) []

abbrev pub case_front : List RuleInfo → Case → List ℕ
case_front infos c = codes "case " ++ c.id ++ codes " " ++ rule_id infos c.rule

abbrev pub case_end : Expected → Graded → List ℕ
case_end expected graded =
    codes " expected " ++ expected_word expected ++ codes " actual " ++ actual_word graded.actual ++ codes " " ++ grade_word graded.grade ++ codes "\n"

abbrev pub case_line : List RuleInfo → Case → Graded → List ℕ
case_line infos c graded = case_front infos c ++ case_end c.expected graded

-- ---- the sums

-- how many cases there are, and how many of each grade
unfoldable pub sums : List Mark → List ℕ
sums marks =
    codes " cases " ++ decimal (length marks) ++ codes " correct " ++ decimal (count_of Correct marks)
    ++ codes " untold " ++ decimal (count_of Untold marks) ++ codes " wrong " ++ decimal (count_of Wrong marks)

-- the line of a rule that has these marks
abbrev pub rule_line : RuleInfo → List Mark → List ℕ
rule_line info marks = codes "rule " ++ info.id ++ sums marks ++ codes " " ++ fares_word (fares_of marks) ++ codes "\n"

-- the line of a rule that has a case, and else nothing
abbrev pub rule_lines_of : RuleInfo → List Mark → List ℕ
rule_lines_of info marks = if length marks == 0 then [] else rule_line info marks

abbrev pub rule_lines : List Mark → RuleInfo → List ℕ
rule_lines marks info = rule_lines_of info (marks_under info.no marks)

abbrev pub total_line : List Mark → List ℕ
total_line marks = codes "total" ++ sums marks ++ codes "\n"

-- ---- the table

-- the lines after those of the cases: of each rule that has one, in the order of the infos, and the sums of all
abbrev pub sums_table : List RuleInfo → List Mark → List ℕ
sums_table infos marks = flat_map (rule_lines marks) infos ++ total_line marks

abbrev pub case_lines : List RuleInfo → List Case → List Graded → List ℕ
case_lines infos cases graded = flat_map (λ p. case_line infos p.0 p.1) (zip cases graded)

-- the table of cases with their grades, each with its own
unfoldable pub case_table : List RuleInfo → List Case → List Graded → List ℕ
case_table infos cases graded = case_lines infos cases graded ++ sums_table infos (marks_of cases graded)
