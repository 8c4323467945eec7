-- Laws of counts.
use Rattle.std.proofs.Common.{ℕ, ◌≤◌, inl, inr, arith}
use Rattle.counts.specs.Counts.{greatest, next, Rose, StoodStill}

-- a count after one more is no less
pub next_never_falls : (count : ℕ) → count ≤ greatest → count ≤ next count
next_never_falls count h = omega arith

-- a count after one more rose
pub next_rose : (count : ℕ) → Rose count (next count)
next_rose count = grind arith

-- a count that rose and went on rose
pub rose_before : (before now later : ℕ) → Rose before now → now ≤ later → later ≤ greatest → Rose before later
rose_before before now later (inl rose) on within = inl (omega arith)
rose_before before now later (inr end) on within = inr (omega arith)

-- a count that went on and rose then rose
pub rose_after : (before now later : ℕ) → before ≤ now → Rose now later → Rose before later
rose_after before now later on (inl rose) = inl (omega arith)
rose_after before now later on (inr end) = inr end

-- a count that stood still didn't rise
pub still_not_risen : (before now : ℕ) → StoodStill before now → Rose before now → ⊥
still_not_risen before now still (inl rose) = omega arith
still_not_risen before now still (inr end) = omega arith
