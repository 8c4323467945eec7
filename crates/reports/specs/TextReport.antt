-- The text report of a page.
use Rattle.std.specs.Prelude.{ℕ, List, [], ◌∷◌, ◌++◌, ◌==◌, ◌&&◌, not, length, codes, decimal, filter, count_by, Bool, true, false, if◌then◌else◌}
use Rattle.std.specs.List.{flat_map, list_any}
use Rattle.rule_core.specs.declared.info.RuleInfo.{RuleInfo}
use Rattle.rule_core.specs.declared.verdict.Auto.{Auto}
use Rattle.rule_core.specs.declared.verdict.Auto.TheVariants.{Passed, Failed, CantTell}
use Rattle.rule_core.specs.Words.{word_of}
use Rattle.judge_core.specs.declared.outcomes.OutRow.{OutRow}

abbrev pub line_end : List ℕ
line_end = 10 ∷ []

abbrev pub first_line : List ℕ → List ℕ
first_line address = codes "page " ++ address ++ line_end

-- ---- the lines of a rule

abbrev pub outcome_word : Auto → List ℕ
outcome_word Passed = codes "passed"
outcome_word Failed = codes "failed"
outcome_word CantTell = codes "cantTell"

-- the line of a node, after the rule's id
abbrev pub node_line : ℕ → List ℕ → List ℕ → List ℕ
node_line node outcome why = codes " node " ++ decimal node ++ codes " " ++ outcome ++ codes " " ++ why ++ line_end

-- the line of a row, after the rule's id: the reason of the rule, or the judge where there is one
abbrev pub row_line : OutRow → List ℕ
row_line row =
    if length row.hand == 0 then node_line row.node.0 (outcome_word row.last) (word_of row.reason)
    else node_line row.node.0 (outcome_word row.last) (codes "judged by " ++ row.hand)

abbrev pub is_of : RuleInfo → OutRow → Bool
is_of info row = row.rule.0 == info.no.0

-- the rows of a rule, in list order
abbrev pub of_rule : List OutRow → RuleInfo → List OutRow
of_rule rows info = filter (is_of info) rows

-- no row is of the rule
abbrev pub is_inapplicable : List OutRow → RuleInfo → Bool
is_inapplicable rows info = not (list_any (is_of info) rows)

-- the lines of a rule
abbrev pub rule_lines : List OutRow → RuleInfo → List ℕ
rule_lines rows info =
    if is_inapplicable rows info then info.id ++ codes " inapplicable\n"
    else flat_map (λ row. info.id ++ row_line row) (of_rule rows info)

-- ---- the sums

abbrev pub is_outcome : Auto → Auto → Bool
is_outcome Passed Passed = true
is_outcome Failed Failed = true
is_outcome CantTell CantTell = true
is_outcome wanted outcome = false

-- the row is of one of the rules; others are passed over
abbrev pub is_known : List RuleInfo → OutRow → Bool
is_known infos row = list_any (λ info. is_of info row) infos

-- how many rows of these rules have this final outcome
abbrev pub count_of : Auto → List RuleInfo → List OutRow → ℕ
count_of outcome infos rows = count_by (λ row. is_outcome outcome row.last && is_known infos row) rows

-- how many of the rules are inapplicable
abbrev pub inapplicable : List RuleInfo → List OutRow → ℕ
inapplicable infos rows = count_by (is_inapplicable rows) infos

-- a word and a count
unfoldable pub counted : List ℕ → ℕ → List ℕ
counted word n = word ++ codes " " ++ decimal n

-- the last line
abbrev pub totals_line : ℕ → ℕ → ℕ → ℕ → List ℕ
totals_line passed failed cant_tell inapplicable =
    counted (codes "passed") passed ++ codes " " ++ counted (codes "failed") failed ++ codes " " ++ counted (codes "cantTell") cant_tell
    ++ codes " " ++ counted (codes "inapplicable") inapplicable ++ line_end

abbrev pub totals : List RuleInfo → List OutRow → List ℕ
totals infos rows =
    totals_line (count_of Passed infos rows) (count_of Failed infos rows) (count_of CantTell infos rows) (inapplicable infos rows)

-- ---- the report

-- The report on a page of this address, by these rules: the lines of each rule in turn, and the sums. A
-- row of none of the rules is passed over.
unfoldable pub text_report : List ℕ → List RuleInfo → List OutRow → List ℕ
text_report address infos rows = first_line address ++ flat_map (rule_lines rows) infos ++ totals infos rows
