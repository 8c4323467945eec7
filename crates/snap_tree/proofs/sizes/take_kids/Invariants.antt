use Rattle.std.proofs.Common.{◌≡◌, ◌+◌, reverse, vec_len}
use Rattle.snap_tree.specs.Sizing.{end_of, left_roots}
use Rattle.snap_tree.proofs.sizes.take_kids.Given as goal

abbrev pub invariant-loop-first : goal.invariant-loop-first
invariant-loop-first l =
    (end_of l.row l.end (reverse l.waiting.items) ≡ end_of l.row (l.place + 1) (reverse l.fn.waiting.items)) × (left_roots l.row (reverse l.waiting.items) ≡ left_roots l.row (reverse l.fn.waiting.items))

abbrev pub decreases-loop-first : goal.decreases-loop-first
decreases-loop-first l = vec_len l.waiting
