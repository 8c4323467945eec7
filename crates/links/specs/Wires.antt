-- What a link tells of its bytes, and what is read and written of that. Links in memory tell theirs, and no
-- real connection does.
use Rattle.std.specs.Prelude.{◌≡◌, ◌==◌, ℕ, ◌+◌, ◌<◌, List, [], ◌++◌, if◌then◌else◌, Option, Some, Result, Ok, Err}
use Rattle.streams.specs.declared.failed.Failed.{Failed}

-- all bytes that a link gives over its whole life, those of them that weren't read yet, and all that was written
pub record Wire : Type 0 where
  pub brought : List ℕ
  pub left : List ℕ
  pub written : List ℕ

-- what isn't read yet is the end of what is brought
abbrev pub EndsAlike : Option Wire → Type 0
EndsAlike wire = (w : Wire) → wire ≡ Some w → (read : List ℕ) × (w.brought ≡ read ++ w.left)

-- a wire before this piece was read
abbrev pub unread : List ℕ → Wire → Wire
unread piece w = record { brought = w.brought; left = piece ++ w.left; written = w.written }

-- what it has left
abbrev pub left_of : Wire → List ℕ
left_of w = w.left

-- Each read that gives bytes uses up one of those still allowed, and no other. With none allowed it fails.
abbrev pub Allows : ℕ → ℕ → Result ℕ Failed → Type 0
Allows old new (Ok n) = (0 < old) × (new + (if n == 0 then 0 else 1) ≡ old)
Allows old new (Err e) = new ≡ old

-- a wire after this was written
abbrev pub extended : Wire → List ℕ → Wire
extended w piece = record { brought = w.brought; left = w.left; written = w.written ++ piece }

-- nothing is read or written yet, and no fault was met
pub record IsUntouched (wire : Option Wire) (faults : ℕ) : Type 0 where
  pub none_read : (w : Wire) → wire ≡ Some w → w.left ≡ w.brought
  pub none_written : (w : Wire) → wire ≡ Some w → w.written ≡ []
  pub no_fault : faults ≡ 0
