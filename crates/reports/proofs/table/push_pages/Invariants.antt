use Rattle.std.proofs.Common.{take}
use Rattle.std.specs.List.{flat_map}
use Rattle.reports.specs.Table.{page_records, written}
use Rattle.reports.specs.Writing.{Adds}
use Rattle.reports.proofs.table.push_pages.Given as goal

abbrev pub invariant-loop-page : goal.invariant-loop-page
invariant-loop-page g l = Adds g.W.Write.contents l.initial.writer l.writer (flat_map (λ page. written (page_records l.site l.infos page)) (take l.page-index l.pages))
