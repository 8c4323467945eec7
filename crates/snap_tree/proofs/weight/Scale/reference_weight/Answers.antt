use Rattle.std.proofs.Common.{length, sym, ◌∙◌, ap, arith, map}
use Rattle.std.proofs.lemmas.List.{take_all}
use Rattle.std.specs.List.{sum_by}
use Rattle.snap_tree.specs.Trees.{rows_of}
use Rattle.snap_tree.specs.Spots.{spots}
use Rattle.snap_tree.specs.Labels.{outer_label}
use Rattle.snap_tree.specs.Weight.{found_weight, reference_weight}
use Rattle.snap_tree.specs.Weighing.{saturated}
use Rattle.snap_tree.proofs.Growth.{rows_of_grown}
use Rattle.snap_tree.proofs.Weights.{length-spots, found_turn, length-outer}
use Rattle.snap_tree.proofs.weight.Scale.reference_weight.Goals as goal

pub index-requires : goal.index-requires
index-requires c =
    omega (arith, c.loop-place-test.true, length-outer c.self.inside.rows.now c.self.inside.index.now.outer.items c.self.invariant.indexed.outer, c.self.inside.index.now.outer.ok.0)

pub loop-place-preserved : goal.loop-place-preserved
loop-place-preserved c =
    let rows_are = ap rows_of (sym c.self.view_is) ∙ rows_of_grown c.self.inside.rows.now in
    let outer_is = c.self.invariant.indexed.outer ∙ ap (λ t. map (outer_label t) (spots t)) c.self.view_is in
    found_turn c.args.self.now c.self.inside.rows.now c.self.inside.index.now.outer.items c.loop-place.place c.row-item.result c.index.result.now c.loop-place.sum c.add_references-sum.result c.add_labels-sum.result rows_are outer_is c.loop-place-test.true c.row-item.is c.index.ensures c.loop-place.invariant c.add_references-sum.ensures c.add_labels-sum.ensures

pub returns : goal.returns
unfolding reference_weight
returns c =
    let rows_are = ap rows_of (sym c.self.view_is) ∙ rows_of_grown c.self.inside.rows.now in
    c.loop-place.invariant ∙ ap (λ ss. saturated (sum_by (found_weight c.args.self.now) ss)) (take_all c.loop-place.place (spots c.args.self.now) (omega (arith, c.loop-place-test.false, length-spots c.args.self.now, ap length rows_are)))
