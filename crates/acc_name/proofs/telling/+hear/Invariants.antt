use Rattle.std.proofs.Common.{◌≤◌, string_bytes}
use Rattle.snap_tree.specs.Trees.{count}
use Rattle.acc_tree.specs.Seen.{seen}
use Rattle.acc_name.specs.Voices.{asked_of}
use Rattle.acc_name.proofs.Hearing.{Remains}
use Rattle.acc_name.proofs.telling.+hear.Given as goal

abbrev pub decreases-hear : goal.decreases-hear
decreases-hear g l = count l.trees

abbrev pub invariant-loop-branch : goal.invariant-loop-branch
invariant-loop-branch g l =
    (count l.rest ≤ count l.fn.trees)
    × Remains (asked_of l.scope (g.R.References.tells l.references)) l.above l.wanted (string_bytes l.fn.content) (string_bytes l.content) l.so_far (seen l.rest) (seen l.fn.trees)

abbrev pub decreases-loop-branch : goal.decreases-loop-branch
decreases-loop-branch g l = count l.rest
