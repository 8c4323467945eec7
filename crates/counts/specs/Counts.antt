-- Counts. A count is a u64 that never falls, and stands still at the greatest u64.
use Rattle.std.specs.Prelude.{◌≡◌, ℕ, ◌+◌, ◌-◌, ◌^◌, ◌<◌, ◌⊎◌, min}

-- the greatest u64
abbrev pub greatest : ℕ
greatest = 2 ^ 64 - 1

-- a count after one more
abbrev pub next : ℕ → ℕ
next count = min (count + 1) greatest

-- a count after so many more
abbrev pub raised : ℕ → ℕ → ℕ
raised count more = min (count + more) greatest

-- the count rose, or stands at the greatest u64
abbrev pub Rose : ℕ → ℕ → Type 0
Rose before now = (before < now) ⊎ (now ≡ greatest)

-- the count is as it was, below the greatest u64: nothing was counted
pub record StoodStill (before now : ℕ) : Type 0 where
  pub same : now ≡ before
  pub below : now < greatest
