use Rattle.std.proofs.Common.{◌≡◌, ◌+◌, ◌≤◌, ◌++◌, length}
use Rattle.keep_core.specs.declared.limits.TheConstants.{MOST_REVISION}
use Rattle.desk_core.specs.Placing.{heads_from}
use Rattle.desk_core.proofs.built.heads_from.Given as goal

abbrev pub invariant-loop-first : goal.invariant-loop-first
invariant-loop-first l =
    (l.rev + length l.left ≤ MOST_REVISION) × (l.heads.items ++ heads_from l.hand l.rev l.left ≡ heads_from l.hand l.fn.counter l.fn.placed)

abbrev pub decreases-loop-first : goal.decreases-loop-first
decreases-loop-first l = length l.left
