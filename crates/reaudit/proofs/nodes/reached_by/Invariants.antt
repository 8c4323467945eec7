use Rattle.std.proofs.Common.{◌≡◌, take}
use Rattle.reaudit.specs.Nodes.{reached_by}
use Rattle.reaudit.proofs.nodes.reached_by.Given as goal

abbrev pub invariant-loop-it : goal.invariant-loop-it
invariant-loop-it l = l.reached.items ≡ reached_by (take l.it-index l.placed)
