use Rattle.std.proofs.Common.{length}
use Rattle.snap_tree.proofs.LangLists.{IsSoFar}
use Rattle.snap_tree.proofs.langs.langs_fault.Given as goal

abbrev pub invariant-loop-lang : goal.invariant-loop-lang
invariant-loop-lang l = IsSoFar l.list l.rest l.place

abbrev pub decreases-loop-lang : goal.decreases-loop-lang
decreases-loop-lang l = length l.rest
