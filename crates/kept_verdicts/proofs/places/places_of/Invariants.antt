use Rattle.std.proofs.Common.{take}
use Rattle.kept_verdicts.specs.Places.{ArePlaced}
use Rattle.kept_verdicts.proofs.places.places_of.Given as goal

abbrev pub invariant-loop-place : goal.invariant-loop-place
invariant-loop-place l = ArePlaced (take l.place l.js) l.places
