-- What rows end as, where a `&mut` to one of them is returned.
use Rattle.std.specs.Prelude.{ℕ, List, slice_set}
use Rattle.std.specs.Borrow.{Lends, Fml, RattleType, MutBor}
use Rattle.named_rows.specs.contracts.rows.Rows.{the_row}

-- once the borrow r ends, the row at the place is the last one written through r
abbrev pub lends_row : (T : RattleType) → MutBor (List T.Denot) → ℕ → MutBor T.Denot → Fml
lends_row T s i r = Lends (the_row T) T s r (slice_set s.now i)
