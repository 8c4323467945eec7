use Rattle.std.proofs.Common.{sym, ◌∙◌, ap}
use Rattle.snap_tree.specs.Weight.{weight_of}
use Rattle.snap_tree.proofs.Weights.{weighed, weighs_nothing}
use Rattle.snap_tree.proofs.weight.Scale.weight_of.Goals as goal

pub weight_at-requires : goal.weight_at-requires
weight_at-requires c =
    let at = weighed c.self.inside.rows.now c.self.inside.index.now.sizes.items c.self.inside.sums.items c.args.n c.in-Some.place c.self.invariant.indexed.sized c.self.invariant.summed (sym (c.self.invariant.indexed.placed c.args.n.0) ∙ sym c.in-Some.ensures) in
    rw (c.as_slice.ensures.value, c.as_slice-in-Some.ensures.value) at.summed

pub returns-in-Some : goal.returns-in-Some
returns-in-Some c =
    let at = weighed c.self.inside.rows.now c.self.inside.index.now.sizes.items c.self.inside.sums.items c.args.n c.in-Some.place c.self.invariant.indexed.sized c.self.invariant.summed (sym (c.self.invariant.indexed.placed c.args.n.0) ∙ sym c.in-Some.ensures) in
    c.weight_at.ensures ∙ rw (c.as_slice.ensures.value, c.as_slice-in-Some.ensures.value) at.weight ∙ ap (λ t. weight_of t c.args.n) c.self.view_is

pub returns-in-None : goal.returns-in-None
returns-in-None c =
    sym (ap (λ t. weight_of t c.args.n) (sym c.self.view_is) ∙ weighs_nothing c.self.inside.rows.now c.args.n (sym (c.self.invariant.indexed.placed c.args.n.0) ∙ sym c.in-None.ensures))
