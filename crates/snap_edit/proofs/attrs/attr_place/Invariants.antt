use Rattle.std.proofs.Common.{◌≡◌, ◌+◌, length}
use Rattle.snap_edit.specs.AttrPlaces.{attr_place}
use Rattle.snap_edit.proofs.attrs.attr_place.Given as goal

abbrev pub invariant-loop-attr : goal.invariant-loop-attr
invariant-loop-attr l =
    (l.place + length l.rest ≡ length l.attrs) × (attr_place l.place l.name l.rest ≡ attr_place 0 l.name l.attrs)

abbrev pub decreases-loop-attr : goal.decreases-loop-attr
decreases-loop-attr l = length l.rest
