use Rattle.std.proofs.Common.{◌∙◌}
use Rattle.snap_json.specs.Written.{attr_data}
use Rattle.snap_json.proofs.WrittenTokens.{list_more}
use Rattle.snap_json.proofs.writing.put_attrs.Goals as goal

pub loop-attr-preserved : goal.loop-attr-preserved
loop-attr-preserved c =
    let told = c.in_ok-put_attr.ensures in record {
      before = told.before ∙ c.loop-attr.invariant.before;
      tokens = list_more attr_data c.args.attrs.now c.loop-attr.attr-index c.attr-item.result _ _ _ c.loop-attr-test.true c.attr-item.is c.loop-attr.invariant.tokens told.tokens;
    }
