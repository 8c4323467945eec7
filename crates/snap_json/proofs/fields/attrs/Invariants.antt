use Rattle.std.proofs.Common.{◌≡◌, drop}
use Rattle.serde_json.specs.View.{items_view}
use Rattle.snap_json.specs.Fields.{attrs}
use Rattle.snap_json.proofs.AttrLoop.{after}
use Rattle.snap_json.proofs.fields.attrs.Given as goal

abbrev pub invariant-loop-pair : goal.invariant-loop-pair
invariant-loop-pair l = after l.found.items (attrs (items_view (drop l.pair-index l.pairs))) ≡ attrs (items_view l.pairs)
