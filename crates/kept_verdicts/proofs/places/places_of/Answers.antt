use Rattle.std.proofs.Common.{arith}
use Rattle.kept_verdicts.proofs.LatestPlaces.{places_step}
use Rattle.kept_verdicts.proofs.places.places_of.Goals as goal

pub loop-place-preserved : goal.loop-place-preserved
loop-place-preserved c =
    places_step c.args.js.now c.loop-place.place c.index-js-place.result c.index-js-place.result c.loop-place.places c.put.new.places (omega arith) c.index-js-place.is
    c.loop-place.invariant c.in_ok-put.ensures
