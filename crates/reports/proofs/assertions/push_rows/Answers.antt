use Rattle.std.proofs.Common.{List, [], ◌++◌, ◌∙◌, ap, cond, map, filter, arith}
use Rattle.judge_core.proofs.Lists.{flat_map_more}
use Rattle.judge_core.specs.declared.outcomes.OutRow.{OutRow}
use Rattle.reports.specs.TextReport.{is_of}
use Rattle.reports.specs.Earl.{row_assertion}
use Rattle.reports.specs.Writing.{tokens_of, all_tokens}
use Rattle.reports.proofs.Chosen.{flat_map_chosen, flat_map_walked}
use Rattle.reports.proofs.assertions.push_rows.Goals as goal

pub loop-row-preserved : goal.loop-row-preserved
loop-row-preserved c =
    let info = c.args.info.now in
    let page = c.args.page.now in
    let told = c.in_ok-push_row.ensures in
    let before = c.loop-row.writer.tokens in (
      told.before ∙ c.loop-row.invariant.0,
      flat_map_more (λ row. cond (is_of info row) (tokens_of (row_assertion page info row)) []) c.as_slice-row-items.result.now c.loop-row.row-index c.row-item.result c.args.writer.now.tokens before
          c.push_row.new.writer.tokens c.loop-row-test.true c.loop-row.invariant.1
          (told.tokens ∙ ap (λ (r : OutRow). before ++ cond (is_of info r) (tokens_of (row_assertion page info r)) []) c.row-item.is),
    )

pub returns-clause-tokens : goal.returns-clause-tokens
returns-clause-tokens c =
    let info = c.args.info.now in
    let page = c.args.page.now in
    let rows = c.as_slice-row-items.result.now in
    flat_map_walked (λ row. cond (is_of info row) (tokens_of (row_assertion page info row)) []) rows c.loop-row.row-index _ _ _ (omega arith) (omega arith)
    (flat_map_chosen tokens_of (row_assertion page info) (is_of info) rows ∙ ap (λ (l : List OutRow). all_tokens (map (row_assertion page info) (filter (is_of info) l))) c.as_slice-row-items.ensures)
    c.loop-row.invariant.1
