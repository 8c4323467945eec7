use Rattle.std.proofs.Common.{◌≡◌, take}
use Rattle.made_audit.specs.Line.{nodes_of}
use Rattle.made_audit.proofs.sums.nodes_of.Given as goal

abbrev pub invariant-loop-work : goal.invariant-loop-work
invariant-loop-work l = l.nodes ≡ nodes_of (take l.work-index l.works)
