-- A number that saturates.
use Rattle.std.proofs.Common.{◌≡◌, ◌+◌, ◌*◌, ℕ, min, arith}

-- a greater whole number saturates all the same
pub scaled : (whole more : ℕ) → min (min whole 1000000 * 1000 + more) 1000000000 ≡ min (whole * 1000 + more) 1000000000
scaled whole more = omega arith
