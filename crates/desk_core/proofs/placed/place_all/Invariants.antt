use Rattle.desk_core.specs.Told.{told_of}
use Rattle.desk_core.specs.Placing.{PlacesSome}
use Rattle.desk_core.proofs.placed.place_all.Given as goal

abbrev pub invariant-loop-entry : goal.invariant-loop-entry
invariant-loop-entry g l =
    PlacesSome l.site l.heads l.yielded (told_of g.K.Keeper l.fn.keeper) (told_of g.K.Keeper l.keeper) l.all.items
