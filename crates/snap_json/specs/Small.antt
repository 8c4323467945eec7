-- What every row holds to, since its numbers are of 32 bits.
use Rattle.std.specs.Prelude.{◌<◌, ◌^◌, IfSome}
use Rattle.snap_tree.specs.declared.row.Row.{Row}

-- the row's number and its parent's fit 32 bits
pub record IsSmall (row : Row) : Type 0 where
  pub number : row.id.0 < 2 ^ 32
  pub parent : IfSome row.parent (λ p. p.0 < 2 ^ 32)
