use Rattle.std.proofs.Common.{arith}
use Rattle.csv.specs.Writing.{row_text, default_writer}
use Rattle.reports.specs.Table.{page_records, written}
use Rattle.reports.proofs.Chosen.{flat_map_parts}
use Rattle.reports.proofs.Records.{adds_nothing, adds_item, adds_all}
use Rattle.reports.proofs.table.push_pages.Goals as goal

pub loop-page-init : goal.loop-page-init
loop-page-init g c = adds_nothing g.W.Write.contents c.args.writer.now

pub loop-page-preserved : goal.loop-page-preserved
loop-page-preserved g c =
    adds_item g.W.Write.contents (λ page. written (page_records c.args.site.now c.args.infos.now page)) c.args.pages.now c.loop-page.page-index c.page-item.result c.args.writer.now c.loop-page.writer c.push_page.new.writer
    c.loop-page-test.true c.page-item.is c.loop-page.invariant c.in_ok-push_page.ensures

pub returns : goal.returns
returns g c =
    adds_all g.W.Write.contents (λ page. written (page_records c.args.site.now c.args.infos.now page)) c.args.pages.now c.loop-page.page-index c.args.writer.now c.loop-page.writer _ (omega arith) (omega arith)
    (flat_map_parts (row_text default_writer) (page_records c.args.site.now c.args.infos.now) c.args.pages.now) c.loop-page.invariant
