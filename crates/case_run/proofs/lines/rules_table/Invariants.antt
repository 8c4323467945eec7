use Rattle.std.proofs.Common.{◌≡◌, take}
use Rattle.std.specs.List.{flat_map}
use Rattle.case_run.specs.Table.{rule_lines}
use Rattle.case_run.proofs.lines.rules_table.Given as goal

abbrev pub invariant-loop-info : goal.invariant-loop-info
invariant-loop-info l = l.table.items ≡ flat_map (rule_lines l.marks) (take l.info-index l.infos)
