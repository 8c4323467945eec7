-- What the outcomes of a page come to.
use Rattle.std.specs.Prelude.{ℕ, List, ◌==◌, Bool, true, false, not, min, count_by}
use Rattle.std.specs.List.{list_any}
use Rattle.rule_core.specs.declared.info.RuleInfo.{RuleInfo}
use Rattle.rule_core.specs.declared.verdict.Auto.{Auto}
use Rattle.rule_core.specs.declared.verdict.Auto.TheVariants.{Passed, Failed, CantTell}
use Rattle.judge_core.specs.declared.outcomes.OutRow.{OutRow}
use Rattle.judge_core.specs.Composites.{is_passed, is_open}
use Rattle.desk_core.specs.declared.reply.Summary.{Summary}

-- a count that is sent stands still at the greatest u32, which the rows of a page don't reach
abbrev pub told : ℕ → ℕ
told count = min count 4294967295

abbrev pub is_failed : Auto → Bool
is_failed Passed = false
is_failed Failed = true
is_failed CantTell = false

-- the rows whose final outcome passes a test
abbrev pub ended : (Auto → Bool) → List OutRow → ℕ
ended test rows = count_by (λ row. test row.last) rows

abbrev pub has_rows : List OutRow → RuleInfo → Bool
has_rows rows info = list_any (λ row. row.rule.0 == info.no.0) rows

-- the rules without a row
abbrev pub idle : List RuleInfo → List OutRow → ℕ
idle infos rows = count_by (λ info. not (has_rows rows info)) infos

abbrev pub summary : List RuleInfo → List OutRow → Summary
summary infos rows = record {
  passed = told (ended is_passed rows);
  failed = told (ended is_failed rows);
  cant_tell = told (ended is_open rows);
  inapplicable = told (idle infos rows);
}
