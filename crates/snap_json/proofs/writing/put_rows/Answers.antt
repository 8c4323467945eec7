use Rattle.std.proofs.Common.{◌∙◌, arith}
use Rattle.std.proofs.lemmas.Grind.{common_steps}
use Rattle.snap_json.specs.Written.{row_data}
use Rattle.snap_json.proofs.WrittenTokens.{list_more}
use Rattle.snap_json.proofs.writing.put_rows.Goals as goal

pub loop-row-preserved : goal.loop-row-preserved
loop-row-preserved c =
    let told = c.in_ok-put_row.ensures in record {
      before = told.before ∙ c.loop-row.invariant.before;
      tokens = list_more row_data c.args.rows.now c.loop-row.row-index c.row-item.result _ _ _ c.loop-row-test.true c.row-item.is c.loop-row.invariant.tokens told.tokens;
      small = grind (arith, common_steps);
    }
