-- The refresh with which `serve`, `report`, `earl` and `csv` begin.
use Rattle.std.specs.Prelude.{ℕ, sum, Result}
use Rattle.rule_core.specs.Books.{Book}
use Rattle.keep_core.specs.declared.fault.KeepFault.{KeepFault}
use Rattle.keep_core.specs.Keeping.{CountsFaults}
use Rattle.desk_core.specs.Refreshing.{Refreshes, refresh_judgings, CostsAtMost}
use Rattle.desk_http.specs.Desk.{Moment}
use Rattle.desk_run.specs.Desk.{Spares}

-- what is kept was refreshed by the first n books, or that failed
pub record Refreshed {A : Type 0} (book : Book) (n : ℕ) (result : Result A KeepFault) (old new : Moment) : Type 0 where
  pub refreshes : Refreshes book old.tables new.tables result
  pub faults : CountsFaults old.faults new.faults result
  pub counted : CostsAtMost (refresh_judgings book) old.tables new.tables (sum old.calls) (sum new.calls)
  pub spares : Spares n old.calls new.calls
