use Rattle.std.proofs.Common.{take}
use Rattle.earl_in.specs.Standing.{AreStanding}
use Rattle.earl_in.proofs.lent.standing_of.Given as goal

abbrev pub invariant-loop-judgement : goal.invariant-loop-judgement
invariant-loop-judgement l = AreStanding l.standing (take l.judgement-index l.js)
