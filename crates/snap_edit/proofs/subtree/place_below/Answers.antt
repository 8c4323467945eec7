use Rattle.std.proofs.Common.{◌≡◌, length, sym, ◌∙◌, ap, arith}
use Rattle.snap_tree.specs.Trees.{count, sizes_of}
use Rattle.snap_tree.specs.Grown.{grown}
use Rattle.snap_edit.proofs.Putting.{rest_fits, run_fits}
use Rattle.snap_edit.proofs.subtree.place_below.Goals as goal

pub overflow_sub-result : goal.overflow_sub-result
overflow_sub-result c =
    let rest =
    rest_fits c.args.count c.run_below-below.result c.in-Some.rest (sym c.after_first.ensures ∙ c.in-Some.is)
    in
    omega (arith, c.len.ensures, c.len-all.ensures, rest)

pub overflow_add-result-in-Some : goal.overflow_add-result-in-Some
overflow_add-result-in-Some c =
    let sizes = c.as_slice.ensures.value ∙ c.in_ok-sizes.ensures in
    let below = rw sizes at (ap count c.run_below-below.ensures) in
    let fits = run_fits c.args.parent c.args.rows.now (sizes_of (grown c.args.rows.now)) c.requires in
    let long : length c.in_ok-sizes.sizes.items ≡ length c.args.rows.now =
    ap length c.in_ok-sizes.ensures ∙ c.requires.sized
    in
    omega (arith, c.len.ensures, c.len-all.ensures, below, fits, long, c.in_ok-sizes.sizes.ok.0, c.in_ok-sizes.sizes.small)
