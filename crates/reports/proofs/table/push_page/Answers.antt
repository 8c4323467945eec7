use Rattle.std.proofs.Common.{arith}
use Rattle.csv.specs.Writing.{row_text, default_writer}
use Rattle.reports.specs.Table.{rule_records, written}
use Rattle.reports.proofs.Chosen.{flat_map_parts}
use Rattle.reports.proofs.Records.{adds_nothing, adds_more, adds_all}
use Rattle.reports.proofs.table.push_page.Goals as goal

pub loop-info-init : goal.loop-info-init
loop-info-init g c = adds_nothing g.W.Write.contents c.args.writer.now

pub loop-info-preserved : goal.loop-info-preserved
loop-info-preserved g c =
    adds_more g.W.Write.contents (λ info. written (rule_records c.args.site.now c.args.page.now info)) c.args.infos.now c.loop-info.info-index _ c.args.writer.now c.loop-info.writer c.push_rule.new.writer
    c.loop-info-test.true c.loop-info.invariant c.in_ok-push_rule.ensures

pub returns : goal.returns
returns g c =
    adds_all g.W.Write.contents (λ info. written (rule_records c.args.site.now c.args.page.now info)) c.args.infos.now c.loop-info.info-index c.args.writer.now c.loop-info.writer _ (omega arith) (omega arith)
    (flat_map_parts (row_text default_writer) (rule_records c.args.site.now c.args.page.now) c.args.infos.now) c.loop-info.invariant
