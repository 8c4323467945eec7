-- Printing into memory that was taken before.
use Rattle.std.specs.Prelude.{ℕ, ◌+◌, ◌<◌, ◌≤◌, List, length, Result, OnOk, OnErr}

-- At most this number of bytes were put at the end, and no room was lost; or there wasn't room for so many.
pub record Fits {A E : Type 0} (most : ℕ) (old : List ℕ) (room : ℕ) (new : List ℕ) (now_room : ℕ) (result : Result A E) : Type 0 where
  pub kept : room ≤ now_room
  pub grown : OnOk result (length new ≤ length old + most)
  pub full : OnErr result (room < length old + most)
