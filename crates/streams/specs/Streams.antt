-- What reads and writes do to what is told, and to the count of faults. What is told of a stream may be its bytes, or a record that has
-- them: `unread bytes t` is what was told before these bytes were read, and `extended t bytes` what is told after these were written.
-- What tells before a call tells after it, and the other way round.
use Rattle.std.specs.Prelude.{◌≡◌, ℕ, ◌<◌, ◌≤◌, ◌⊎◌, List, [], ◌++◌, length, take, Option, Some, None, Result, Ok, Err, OnOk, OnErr, IfSome}
use Rattle.std.specs.Io.KnownBytes.{IsAtEnd}
use Rattle.counts.specs.Counts.{next, Rose, StoodStill}
use Rattle.streams.specs.declared.failed.Failed.{Failed}
use Rattle.streams.specs.Told.{Input, Output, Outside}

-- ---- faults

-- Faults are counted: the count never falls, a call fails only where it rose in that call, and one that doesn't fail leaves it.
pub record Counts {A : Type 0} (before now : ℕ) (result : Result A Failed) : Type 0 where
  pub never_falls : before ≤ now
  pub rose : OnErr result (Rose before now)
  pub same : OnOk result (now ≡ before)

-- ---- reading

-- what was told before these bytes were read
abbrev pub unread_told : {A : Type 0} → (List ℕ → A → A) → List ℕ → Option A → Option A
unread_told unread bytes None = None
unread_told unread bytes (Some t) = Some (unread bytes t)

-- what was read is this
abbrev pub WasRead : {A : Type 0} → (List ℕ → A → A) → List ℕ → Option A → Option A → Type 0
WasRead unread bytes old new = old ≡ unread_told unread bytes new

-- A read gave the front of what was left, in the front of a buffer, and nothing only where nothing was
-- left. Where it failed, nothing was read.
abbrev pub Read : {A : Type 0} → (List ℕ → A → A) → (A → List ℕ) → List ℕ → Option A → Option A → Result ℕ Failed → Type 0
Read unread left buf old new (Ok n) = WasRead unread (take n buf) old new × (n ≡ 0 → (t : _) → new ≡ Some t → left t ≡ [])
Read unread left buf old new (Err e) = new ≡ old

-- ---- writing

-- what is told after these bytes were written
abbrev pub extended_told : {A : Type 0} → (A → List ℕ → A) → Option A → List ℕ → Option A
extended_told extended None bytes = None
extended_told extended (Some t) bytes = Some (extended t bytes)

-- what was written is this
abbrev pub Wrote : {A : Type 0} → (A → List ℕ → A) → List ℕ → Option A → Option A → Type 0
Wrote extended bytes old new = new ≡ extended_told extended old bytes

-- what was written is a front of this, and not all
abbrev pub WroteFront : {A : Type 0} → (A → List ℕ → A) → List ℕ → Option A → Option A → Type 0
WroteFront extended bytes old new = (n : ℕ) × (n < length bytes) × Wrote extended (take n bytes) old new

-- A write took the front of a piece. Where it failed, nothing was written.
abbrev pub Written : {A : Type 0} → (A → List ℕ → A) → List ℕ → Option A → Option A → Result ℕ Failed → Type 0
Written extended piece old new (Ok n) = Wrote extended (take n piece) old new
Written extended piece old new (Err e) = new ≡ old

-- ---- sources and sinks, which tell their bytes

-- what a source had left before these bytes were read
abbrev pub before_left : List ℕ → List ℕ → List ℕ
before_left bytes left = bytes ++ left

abbrev pub left_is : List ℕ → List ℕ
left_is left = left

-- what a sink holds after these bytes were written
abbrev pub after_held : List ℕ → List ℕ → List ℕ
after_held held bytes = held ++ bytes

-- a source gave these bytes
abbrev pub Gave : List ℕ → Input → Input → Type 0
Gave bytes old new = WasRead before_left bytes old.left new.left

-- a source gave no more bytes than this
abbrev pub ReadsAtMost : ℕ → Input → Input → Type 0
ReadsAtMost limit old new = (bytes : List ℕ) × (length bytes ≤ limit) × Gave bytes old new

-- A source was read to its end, or to a limit: these are the bytes that it gave. At its end nothing is
-- left of what it told.
pub record IsReadTo (limit : ℕ) (old new : Input) (bytes : List ℕ) : Type 0 where
  pub front : Gave bytes old new
  pub within : length bytes ≤ limit
  pub end : length bytes < limit → IfSome old.left (λ _. IsAtEnd new.left)

-- a sink took all these bytes, and met no fault
pub record Took (old new : Output) (bytes : List ℕ) : Type 0 where
  pub wrote : Wrote after_held bytes old.held new.held
  pub no_fault : new.faults ≡ old.faults

-- a sink took a front of these bytes and met a fault, after which it wasn't written again
pub record BrokeOff (old new : Output) (bytes : List ℕ) : Type 0 where
  pub wrote : WroteFront after_held bytes old.held new.held
  pub fault : new.faults ≡ next old.faults

-- a sink took a line, or a front of it where it met a fault
abbrev pub TookOrBroke : Output → Output → List ℕ → Type 0
TookOrBroke old new line = Took old new line ⊎ BrokeOff old new line

-- no count of faults rose, and none stands at the greatest u64
pub record NoFaults (old new : Outside) : Type 0 where
  pub input : StoodStill old.input.faults new.input.faults
  pub out : StoodStill old.out.faults new.out.faults
  pub err : StoodStill old.err.faults new.err.faults
