-- A link and a door in memory, exact by the list of the calls that fail.
use Rattle.std.specs.Prelude.{◌≡◌, ◌==◌, ℕ, ◌+◌, ◌-◌, not, ◌&&◌, ◌||◌, List, [], ◌∷◌, ◌++◌, length, take, drop, Bool, if◌then◌else◌, Option, Some, None}
use Rattle.std.specs.Option.{option_map_or}
use Rattle.counts.specs.Counts.{next}
use Rattle.counts.specs.Calls.{is_named}
use Rattle.streams.specs.Memory.{gives_of, takes_of, is_full}
use Rattle.links.specs.declared.door.Heard.{Heard}
use Rattle.links.specs.Wires.{Wire, IsUntouched}
use Rattle.links.specs.Doors.{Doorway}

-- ---- a link

-- A link: all bytes that it gives and how many of them were read, the most that a read gives, what was
-- written and how much can be, how many reads are still allowed, the numbers of the calls that fail, and
-- how many calls and faults there were.
pub record LinkState : Type 0 where
  pub brought : List ℕ
  pub at : ℕ
  pub piece : ℕ
  pub written : List ℕ
  pub room : ℕ
  pub reads : ℕ
  pub fails : List ℕ
  pub calls : ℕ
  pub faults : ℕ

-- what is left to read
abbrev pub left : LinkState → List ℕ
left s = drop s.at s.brought

-- what it tells
abbrev pub wire : LinkState → Option Wire
wire s = Some (record { brought = s.brought; left = left s; written = s.written })

-- a link after a call that failed
abbrev pub link_failed : LinkState → LinkState
link_failed s = record s { calls = next s.calls; faults = next s.faults }

-- the next read fails: the list names it, or no read is still allowed
abbrev pub refuses_read : LinkState → Bool
refuses_read s = is_named s.fails s.calls || (s.reads == 0)

-- how many bytes a read into a buffer of that length gives
abbrev pub given : LinkState → ℕ → ℕ
given s room = gives_of s.piece (left s) room

-- a link after a read that gave so many bytes
abbrev pub read_on : LinkState → ℕ → LinkState
read_on s n = record s { calls = next s.calls; at = s.at + n; reads = s.reads - (if n == 0 then 0 else 1) }

abbrev pub after_read : LinkState → ℕ → LinkState
after_read s room = if refuses_read s then link_failed s else read_on s (given s room)

-- the next write fails: the list names it, or no room is left
abbrev pub refuses_write : LinkState → Bool
refuses_write s = is_named s.fails s.calls || is_full s.room s.written

-- how many of so many bytes a write takes
abbrev pub taken : LinkState → ℕ → ℕ
taken s n = takes_of s.room s.written n

abbrev pub after_write : LinkState → List ℕ → LinkState
after_write s piece =
    if refuses_write s then link_failed s else record s { calls = next s.calls; written = s.written ++ take (taken s (length piece)) piece }

-- nothing is read or written yet, and no fault was met
abbrev pub IsUntouchedLink : LinkState → Type 0
IsUntouchedLink s = IsUntouched (wire s) s.faults

-- ---- a door

-- A door: the links that it has still to give, its log, what it listens at, how many links it gave and how
-- many of them are out, the numbers of the calls that fail, and how many calls and faults there were.
pub record DoorState : Type 0 where
  pub links : List LinkState
  pub log : List LinkState
  pub heard : Option Heard
  pub given : ℕ
  pub out : ℕ
  pub fails : List ℕ
  pub calls : ℕ
  pub faults : ℕ

-- how many connections are still allowed: none before it listens
abbrev pub allowed : Option Heard → ℕ → ℕ
allowed heard given = option_map_or (λ h. h.count - given) heard 0

-- what it tells
abbrev pub doorway : DoorState → Doorway
doorway d = record { heard = d.heard; allowed = allowed d.heard d.given; out = d.out; faults = d.faults }

-- no connection is allowed before it listens
pub none_unheard : (d : DoorState) → (doorway d).heard ≡ None → (doorway d).allowed ≡ 0
none_unheard d unheard = λ i. allowed (unheard i) d.given

abbrev pub door_failed : DoorState → DoorState
door_failed d = record d { calls = next d.calls; faults = next d.faults }

abbrev pub after_listen : DoorState → Heard → DoorState
after_listen d heard = if is_named d.fails d.calls then door_failed d else record d { calls = next d.calls; heard = Some heard; given = 0 }

-- the next call of `next` fails: the list names it, or no link is left though a connection is allowed
abbrev pub refuses_next : DoorState → Bool
refuses_next d = is_named d.fails d.calls || (not (allowed d.heard d.given == 0) && (length d.links == 0))

-- the next link
abbrev pub first_link : List LinkState → Option LinkState
first_link [] = None
first_link (l ∷ ls) = Some l

abbrev pub next_link : DoorState → Option LinkState
next_link d = if allowed d.heard d.given == 0 then None else first_link d.links

-- a door after a call of `next` that didn't fail
abbrev pub gone_on : DoorState → DoorState
gone_on d =
    if allowed d.heard d.given == 0
    then record d { calls = next d.calls }
    else record d { calls = next d.calls; links = drop 1 d.links; given = d.given + 1; out = d.out + 1 }

abbrev pub after_next : DoorState → DoorState
after_next d = if refuses_next d then door_failed d else gone_on d

abbrev pub after_done : DoorState → LinkState → DoorState
after_done d link = record d { log = d.log ++ link ∷ []; out = d.out - 1 }
