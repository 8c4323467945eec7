use Rattle.std.proofs.Common.{◌≡◌, take}
use Rattle.reaudit.specs.Nodes.{live_by}
use Rattle.reaudit.proofs.nodes.live_by.Given as goal

abbrev pub invariant-loop-it : goal.invariant-loop-it
invariant-loop-it l = l.live.items ≡ live_by l.marks (take l.it-index l.placed)
