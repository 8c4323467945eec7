-- What a link in memory has left is the end of what it brings.
use Rattle.std.specs.Prelude.{◌≡◌, ℕ, List, ◌++◌, Option, Some, None, take}
use Rattle.std.proofs.Common.{sym, subst}
use Rattle.std.proofs.lemmas.List.{take-append-drop}
use Rattle.links.specs.Wires.{Wire, EndsAlike}
use Rattle.links.specs.Memory.{LinkState, wire}

-- a wire that is told is this one
pub told : (v w : Wire) → Some v ≡ Some w → v ≡ w
told v w e = λ i. of (e i)
  where
    of : Option Wire → Wire
    of (Some x) = x
    of None = v

pub ends_alike : (s : LinkState) → EndsAlike (wire s)
ends_alike s w is =
    let Q : Wire → Type 0 = λ x. (read : List ℕ) × (x.brought ≡ read ++ x.left) in
    subst Q (told _ w is) (take s.at s.brought, sym (take-append-drop s.at s.brought))
