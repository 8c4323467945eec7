-- What a run over a store does.
use Rattle.std.specs.Prelude.{◌≡◌, ℕ, ◌≤◌, ◌⊎◌, List, false, None, IsSome}
use Rattle.counts.specs.Counts.{Rose}
use Rattle.sqlite_trees.specs.declared.store.Store.{Ghosts}
use Rattle.rule_core.specs.Books.{Book}
use Rattle.streams.specs.Told.{Outside}
use Rattle.keep_sql.specs.declared.keeper.Prepared.TheVariants as prepared
use Rattle.keep_sql.specs.Keeper.{Keeper, tables, held, HasEdition, HasTaken, Across, Between, IsToldOf, FoundEdition, StaysStored, LeavesPrepared}
use Rattle.keep_sql.specs.Preparing.{is_taken}
use Rattle.desk_http.specs.Desk.{Desk}
use Rattle.desk_run.specs.Run.{Runs}
use Rattle.store_run.specs.declared.refusal.StoreRefusal.{StoreRefusal}
use Rattle.store_run.specs.declared.refusal.StoreRefusal.TheVariants.{OtherEdition, StoreFault, NoMemory}
use Rattle.store_run.specs.Refusal.{TellsRefusal}

-- Nothing was read, nothing was written on standard output, the door was asked nothing, and no book judged. The keeper
-- isn't ready, and tells no tables.
pub record IsUntouched {L : Type 0} (old new : Outside) (before now : Desk L) : Type 0 where
  pub input : new.input ≡ old.input
  pub out : new.out ≡ old.out
  pub door : now.door ≡ before.door
  pub log : now.log ≡ before.log
  pub calls : now.calls ≡ before.calls
  pub tells_none : now.tables ≡ None
  pub never_falls : before.faults ≤ now.faults

module _ {S : Type 0} (g : Ghosts S) where
  -- why a store isn't run over: the edition that its rows note and noted before, where it is clean and open, or a fault that
  -- the keeper counted
  abbrev pub RefusalCause : StoreRefusal → Keeper S → Keeper S → Type 0
  RefusalCause (OtherEdition number) old new =
      (is_taken number ≡ false) × HasEdition g number new.waiting × Across g (FoundEdition (prepared.OtherEdition number)) (held old) (held new)
  RefusalCause StoreFault old new = Rose old.faults new.faults
  RefusalCause NoMemory old new = Unit {0}

  -- the store is refused: its rows stay, and a crash leaves what it could leave before, or what preparing makes
  pub record IsRefused {L : Type 0} (keeper keeper' : Keeper S) (old new : Outside) (before now : Desk L) (number : ℕ) : Type 0 where
    pub refusal : StoreRefusal
    pub cause : RefusalCause refusal keeper keeper'
    pub stays : Between g StaysStored (held keeper) keeper'.waiting
    pub crash : LeavesPrepared g keeper keeper'
    pub untouched : IsUntouched old new before now
    pub told : TellsRefusal refusal old.err new.err number

  -- The store is ready, and is run over as it is then: with what its rows told as it came in, or with empty tables where it
  -- had none. A crash before the run leaves what it could leave as it came in, or what preparing makes.
  pub record IsRunOver {L : Type 0} (book : Book) (words : List (List ℕ)) (keeper : Keeper S) (old new : Outside) (before now : Desk L) (number : ℕ) : Type 0 where
    pub ready : Keeper S
    pub is_ready : IsSome ready.ready
    pub told : Across g IsToldOf (held keeper) ready.ready
    pub found : Across g (FoundEdition prepared.Ready) (held keeper) (held ready)
    pub edition : HasTaken g ready.ready
    pub crash : LeavesPrepared g keeper ready
    pub never_falls : before.faults ≤ ready.faults
    pub runs : Runs book words old new (record before { tables = tables g ready; faults = ready.faults }) now number

  abbrev pub RunsStore : {L : Type 0} → Book → List (List ℕ) → Keeper S → Keeper S → Outside → Outside → Desk L → Desk L → ℕ → Type 0
  RunsStore book words keeper keeper' old new before now number =
      IsRunOver book words keeper old new before now number ⊎ IsRefused keeper keeper' old new before now number
