use Rattle.std.proofs.Common.{[], length}
use Rattle.json_parts.specs.Lists.{Leads}
use Rattle.json_parts.proofs.front.after_spaces.Given as goal

abbrev pub invariant-loop-first : goal.invariant-loop-first
invariant-loop-first l = Leads [] l.text l.rest

abbrev pub decreases-loop-first : goal.decreases-loop-first
decreases-loop-first l = length l.rest
