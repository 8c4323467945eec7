-- What a keeper tells at a moment.
use Rattle.std.specs.Prelude.{ℕ, Option}
use Rattle.keep_core.specs.declared.keeper.Keeper.{Ghosts}
use Rattle.keep_core.specs.declared.tables.Tables.{Tables}

-- its tables, where it tells them, and the count of its faults
pub record Told : Type 0 where
  pub tables : Option Tables
  pub faults : ℕ

abbrev pub told_of : {K : Type 0} → Ghosts K → K → Told
told_of g keeper = record { tables = g.tables keeper; faults = g.faults keeper }
