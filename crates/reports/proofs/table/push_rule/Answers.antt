use Rattle.std.proofs.Common.{List, arith, cond, [], ap, ◌∙◌, map, filter}
use Rattle.csv.specs.Writing.{row_text, default_writer}
use Rattle.judge_core.specs.declared.outcomes.OutRow.{OutRow}
use Rattle.reports.specs.TextReport.{is_of}
use Rattle.reports.specs.Table.{record_of, written}
use Rattle.reports.proofs.Chosen.{flat_map_chosen}
use Rattle.reports.proofs.Records.{adds_item, adds_all}
use Rattle.reports.proofs.table.push_rule.Goals as goal

pub loop-row-preserved : goal.loop-row-preserved
loop-row-preserved g c =
    let info = c.args.info.now in
    adds_item g.W.Write.contents (λ row. cond (is_of info row) (row_text default_writer (record_of c.args.site.now c.args.page.now info row)) []) c.as_slice-row-items.result.now
    c.loop-row.row-index c.row-item.result c.args.writer.now c.loop-row.writer c.push_row.new.writer c.loop-row-test.true c.row-item.is c.loop-row.invariant c.in_ok-push_row.ensures

pub returns : goal.returns
returns g c =
    let info = c.args.info.now in
    let rows = c.as_slice-row-items.result.now in
    let fields = record_of c.args.site.now c.args.page.now info in
    adds_all g.W.Write.contents (λ row. cond (is_of info row) (row_text default_writer (fields row)) []) rows c.loop-row.row-index c.args.writer.now c.loop-row.writer _ (omega arith) (omega arith)
    (flat_map_chosen (row_text default_writer) fields (is_of info) rows ∙ ap (λ (l : List OutRow). written (map fields (filter (is_of info) l))) c.as_slice-row-items.ensures) c.loop-row.invariant
