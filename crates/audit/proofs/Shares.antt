-- How pages are shared among workers.
use Rattle.std.proofs.Common.{ℕ, ◌/◌, ◌≤◌}
use Rattle.std.proofs.Math.Nat.{div-le_self}

-- a worker takes no more pages than there are
pub share_within : (pages workers : ℕ) → pages / workers ≤ pages
share_within pages workers = div-le_self pages workers
