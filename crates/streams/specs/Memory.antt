-- A source and a sink in memory.
use Rattle.std.specs.Prelude.{◌==◌, ℕ, ◌-◌, min, max, List, ◌++◌, length, take, drop, Bool, if◌then◌else◌, ◌||◌, Some}
use Rattle.counts.specs.Counts.{next}
use Rattle.counts.specs.Calls.{is_named}
use Rattle.streams.specs.Told.{Input, Output}

-- ---- what memory gives and takes

-- how many of the bytes left a read gives, of which at most so many come at once, or 1 where that is 0
abbrev pub gives_of : ℕ → List ℕ → ℕ → ℕ
gives_of piece left room = min (min room (max piece 1)) (length left)

-- how many of so many bytes a write takes, behind those that are held
abbrev pub takes_of : ℕ → List ℕ → ℕ → ℕ
takes_of room held n = min n (room - length held)

-- no room is left
abbrev pub is_full : ℕ → List ℕ → Bool
is_full room held = room - length held == 0

-- ---- a source

-- a source: the bytes left, the most that a read gives, the numbers of the reads that fail, and how
-- many reads and faults there were
pub record Given : Type 0 where
  pub left : List ℕ
  pub piece : ℕ
  pub fails : List ℕ
  pub calls : ℕ
  pub faults : ℕ

-- what it tells
abbrev pub given_told : Given → Input
given_told s = record { faults = s.faults; left = Some s.left }

-- how many bytes a read gives that doesn't fail
abbrev pub given : Given → ℕ → ℕ
given s room = gives_of s.piece s.left room

-- a source after a read
abbrev pub after_read : Given → ℕ → Given
after_read s room = if is_named s.fails s.calls then record s { calls = next s.calls; faults = next s.faults } else record s { calls = next s.calls; left = drop (given s room) s.left }

-- ---- a sink

-- a sink: the bytes that it holds, how many it can hold, the numbers of the writes that fail, and how
-- many writes and faults there were
pub record Held : Type 0 where
  pub held : List ℕ
  pub room : ℕ
  pub fails : List ℕ
  pub calls : ℕ
  pub faults : ℕ

-- what it tells
abbrev pub held_told : Held → Output
held_told s = record { faults = s.faults; held = Some s.held }

-- the next write fails: the list names it, or no room is left
abbrev pub is_refused : Held → Bool
is_refused s = is_named s.fails s.calls || is_full s.room s.held

-- how many of so many bytes a write takes that doesn't fail
abbrev pub taken : Held → ℕ → ℕ
taken s n = takes_of s.room s.held n

-- a sink after a write
abbrev pub after_write : Held → List ℕ → Held
after_write s bytes = if is_refused s then record s { calls = next s.calls; faults = next s.faults } else record s { calls = next s.calls; held = s.held ++ take (taken s (length bytes)) bytes }
