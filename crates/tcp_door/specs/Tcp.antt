-- What links and a door over sockets tell.
use Rattle.std.specs.Prelude.{◌≡◌, ℕ, Option, Some, None, refl}
use Rattle.std.proofs.Common.{sym}
use Rattle.std.proofs.lemmas.Option.{none-some}
use Rattle.links.specs.Wires.{EndsAlike}
use Rattle.links.specs.Doors.{Doorway}
use Rattle.tcp_door.specs.declared.door.Listening.{Listening}

-- a link that tells no bytes
pub ends_alike : EndsAlike None
ends_alike w is = absurd (none-some w is)

-- What a door tells: where it listens, how many connections are still allowed and how many links are out,
-- nothing of which there is before it listens; and its faults.
abbrev pub doorway : Option Listening → ℕ → Doorway
doorway (Some l) faults = record { heard = Some l.heard; allowed = l.allowed; out = l.out; faults = faults }
doorway None faults = record { heard = None; allowed = 0; out = 0; faults = faults }

-- no connection is allowed before it listens
pub none_unheard : (l : Option Listening) (faults : ℕ) → (doorway l faults).heard ≡ None → (doorway l faults).allowed ≡ 0
none_unheard (Some l) faults unheard = absurd (none-some l.heard (sym unheard))
none_unheard None faults unheard = refl
