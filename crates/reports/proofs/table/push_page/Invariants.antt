use Rattle.std.proofs.Common.{take}
use Rattle.std.specs.List.{flat_map}
use Rattle.reports.specs.Table.{rule_records, written}
use Rattle.reports.specs.Writing.{Adds}
use Rattle.reports.proofs.table.push_page.Given as goal

abbrev pub invariant-loop-info : goal.invariant-loop-info
invariant-loop-info g l = Adds g.W.Write.contents l.initial.writer l.writer (flat_map (λ info. written (rule_records l.site l.page info)) (take l.info-index l.infos))
