use Rattle.std.proofs.Common.{◌≡◌, reverse, vec_len}
use Rattle.snap_tree.specs.Opened.{from_opened}
use Rattle.snap_tree.proofs.build.close_to_parent.Given as goal

abbrev pub invariant-loop-last : goal.invariant-loop-last
invariant-loop-last l = from_opened l.row (reverse l.path.items) ≡ from_opened l.row (reverse l.fn.path.items)

abbrev pub decreases-loop-last : goal.decreases-loop-last
decreases-loop-last l = vec_len l.path
