use Rattle.std.proofs.Common.{◌≡◌, ◌++◌, take}
use Rattle.std.specs.List.{flat_map}
use Rattle.reports.specs.TextReport.{rule_lines}
use Rattle.reports.proofs.text.push_rules.Given as goal

abbrev pub invariant-loop-info : goal.invariant-loop-info
invariant-loop-info l = l.report.items ≡ l.initial.report.items ++ flat_map (rule_lines l.rows) (take l.info-index l.infos)
