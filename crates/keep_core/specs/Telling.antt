-- A keeper that tells its tables until its first fault.
use Rattle.std.specs.Prelude.{ℕ, suc, zero, Option, Some, None}
use Rattle.keep_core.specs.declared.tables.Tables.{Tables}

abbrev pub told_until_fault : ℕ → Tables → Option Tables
told_until_fault zero tables = Some tables
told_until_fault (suc faults) tables = None
