-- Sound tables, of whatever sense: what a crash leaves, and what a keeper tells that is prepared over that.
use Rattle.std.specs.Prelude.{◌≡◌, Some, IfSome}
use Rattle.sqlite_trees.specs.Tree.{Trees}
use Rattle.sqlite_trees.specs.declared.store.Store.{Ghosts}
use Rattle.sqlite.specs.Held.{state}
use Rattle.keep_core.specs.declared.change.Change.{Change}
use Rattle.keep_core.specs.Changes.{changed}
use Rattle.keep_core.specs.declared.tables.Tables.{Tables}
use Rattle.store_statements.specs.Stored.{Stored}
use Rattle.store_tables.specs.Told.{tables_in}
use Rattle.keep_sql.specs.Preparing.{HasRows}
use Rattle.keep_sql.specs.Keeper.{Keeper, tables, held, LeftBy, LeavesTables, LeavesPrepared, Across, IsToldOf}

module _ (Sound : Tables → Type 0) where
  -- where the rows of a database that has tables tell any, these are sound
  abbrev pub AreSound : Trees → Type 0
  AreSound db = (s : Stored) → HasRows db s → (t : Tables) → tables_in s ≡ Some t → Sound t

  -- of all that may be left
  abbrev pub AllSound : (Trees → Type 0) → Type 0
  AllSound Left = (db : Trees) → Left db → AreSound db

  module _ {S : Type 0} (g : Ghosts S) where
    -- a keeper tells sound tables, if any
    abbrev pub TellsSound : Keeper S → Type 0
    TellsSound k = (t : Tables) → tables g k ≡ Some t → Sound t

    -- `apply` was asked, by a keeper that told tables, for a batch that makes sound ones of them, and a crash could leave
    -- only sound ones before it
    pub record AsksSound (change : Change) (old new : Keeper S) : Type 0 where
      pub told : Tables
      pub told_is : tables g old ≡ Some told
      pub sound : Sound (changed change told)
      pub before : AllSound (LeftBy g old.ready)
      pub leaves : Across g (LeavesTables change) old.ready new.ready

-- a keeper over a store that was opened after a crash, and that was prepared: the store has what the crash left
pub record StartsAgain {S : Type 0} (g : Ghosts S) (Left : Trees → Type 0) (old new : Keeper S) : Type 0 where
  pub left : IfSome (held old) (λ conn. Left (state g conn).now.trees)
  pub told : Across g IsToldOf (held old) new.ready
  pub crash : LeavesPrepared g old new
