use Rattle.std.proofs.Common.{refl, sym, ◌∙◌, ap}
use Rattle.snap_tree.specs.Grown.{grown}
use Rattle.snap_tree.proofs.Cuts.{cut_of}
use Rattle.snap_tree.proofs.branches.Branches.first.Goals as goal

pub split_at-requires : goal.split_at-requires
split_at-requires c =
    (cut_of _ c.in_ok-row.rows.now _ _ c.in_ok-row.row.now _ c.in_ok-row.ensures.cases.0 c.in_ok-size.ensures.cases.0 c.self.invariant).rows_fit

pub split_at-requires-2 : goal.split_at-requires-2
split_at-requires-2 c =
    (cut_of _ c.in_ok-row.rows.now _ _ c.in_ok-row.row.now _ c.in_ok-row.ensures.cases.0 c.in_ok-size.ensures.cases.0 c.self.invariant).sizes_fit

pub over-kids-requires : goal.over-kids-requires
over-kids-requires c =
    let parts = cut_of _ c.in_ok-row.rows.now _ _ c.in_ok-row.row.now _ c.in_ok-row.ensures.cases.0 c.in_ok-size.ensures.cases.0 c.self.invariant in
    rw (c.split_at-2.ensures.front, c.split_at.ensures.front) parts.kids

pub over-after-requires : goal.over-after-requires
over-after-requires c =
    let parts = cut_of _ c.in_ok-row.rows.now _ _ c.in_ok-row.row.now _ c.in_ok-row.ensures.cases.0 c.in_ok-size.ensures.cases.0 c.self.invariant in
    rw (c.split_at-2.ensures.back, c.split_at.ensures.back) parts.after

pub returns : goal.returns
returns c =
    let parts = cut_of _ c.in_ok-row.rows.now _ _ c.in_ok-row.row.now _ c.in_ok-row.ensures.cases.0 c.in_ok-size.ensures.cases.0 c.self.invariant in
    sym c.self.view_is ∙ ap grown c.in_ok-row.ensures.cases.0 ∙ parts.whole
    ∙ rw (c.over-kids.ensures, c.over-after.ensures, c.split_at.ensures.front, c.split_at.ensures.back) refl
