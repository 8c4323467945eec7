-- What is known on the way through pages and rows.
use Rattle.std.specs.Prelude.{◌+◌, List, map, filter, min}
use Rattle.rule_core.specs.declared.verdict.Auto.{Auto}
use Rattle.rule_core.specs.declared.verdict.Auto.TheVariants as auto
use Rattle.judge_core.specs.declared.outcomes.OutRow.{OutRow}
use Rattle.reports.specs.declared.criterion.Criterion.{Criterion}
use Rattle.reports.specs.declared.criterion.Result4.{Result4}
use Rattle.reports.specs.declared.criterion.Result4.TheVariants.{Failed, CantTell, NoFailureFound, Inapplicable}
use Rattle.reports.specs.declared.sums.Sums.{Sums}
use Rattle.reports.specs.declared.sums.TheConstants.{MOST_SUM}
use Rattle.reports.specs.Criteria.{counts_under, result_of}

-- the worse of two results
abbrev pub worse : Result4 → Result4 → Result4
worse Failed other = Failed
worse CantTell Failed = Failed
worse CantTell CantTell = CantTell
worse CantTell NoFailureFound = CantTell
worse CantTell Inapplicable = CantTell
worse NoFailureFound Failed = Failed
worse NoFailureFound CantTell = CantTell
worse NoFailureFound NoFailureFound = NoFailureFound
worse NoFailureFound Inapplicable = NoFailureFound
worse Inapplicable other = other

-- what one outcome comes to
abbrev pub told : Auto → Result4
told auto.Passed = NoFailureFound
told auto.Failed = Failed
told auto.CantTell = CantTell

-- what some rows come to under a criterion
abbrev pub result_in : Criterion → List OutRow → Result4
result_in criterion rows = result_of (map (λ row. row.last) (filter (counts_under criterion) rows))

-- sums together, each up to the greatest 64-bit number
abbrev pub added : Sums → Sums → Sums
added one other = record {
  passed = min (one.passed + other.passed) MOST_SUM;
  failed = min (one.failed + other.failed) MOST_SUM;
  cant_tell = min (one.cant_tell + other.cant_tell) MOST_SUM;
  inapplicable = min (one.inapplicable + other.inapplicable) MOST_SUM;
}
