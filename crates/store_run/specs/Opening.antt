-- What a run over a file does, by what the file holds as it is opened.
use Rattle.std.specs.Prelude.{◌≡◌, ℕ, ◌⊎◌, List, map, None, Some, IsTrue}
use Rattle.links.specs.declared.link.Link as links
use Rattle.links.specs.declared.door.Door as doors
use Rattle.rule_core.specs.Books.{Book}
use Rattle.streams.specs.Told.{Outside}
use Rattle.sqlite_wal.specs.Recovery.{Image}
use Rattle.sqlite_trees.specs.declared.store.Store.{Ghosts}
use Rattle.sqlite.specs.declared.error.Error.{Error}
use Rattle.sqlite.specs.declared.error.Error.TheVariants.{SqliteFailure}
use Rattle.sqlite.specs.declared.error.ErrorCode.TheVariants.{OutOfMemory}
use Rattle.sqlite.specs.Opening.{is_open_error}
use Rattle.sqlite.specs.Held.{Held, state}
use Rattle.sqlite.specs.State.{HasCleanDisk, Opens, IsLive}
use Rattle.sqlite.specs.Start.{FindsIn}
use Rattle.keep_sql.specs.Keeper.{Keeper, tables}
use Rattle.desk_http.specs.Desk.{Desk}
use Rattle.store_run.specs.declared.refusal.StoreRefusal.{StoreRefusal}
use Rattle.store_run.specs.declared.refusal.StoreRefusal.TheVariants.{StoreFault, NoMemory}
use Rattle.store_run.specs.Refusal.{TellsOrWants}
use Rattle.store_run.specs.Run.{RunsStore}

-- a door and these books, beside which nothing is kept yet
abbrev pub unkept : {D L B : Type 0} → doors.Ghosts D L → links.Ghosts L → (B → ℕ) → D → List B → Desk L
unkept door link calls d books =
    record { wire = link.wire; broken = link.faults; door = door.told d; log = door.log d; tables = None; faults = 0; calls = map calls books }

-- a keeper over a connection, which isn't prepared
abbrev pub unprepared : {S : Type 0} → Held S → Keeper S
unprepared conn = record { ready = None; waiting = Some conn; shut = None; faults = 0 }

-- why a file isn't opened, by the error of the opening
abbrev pub refusal_by : Error → StoreRefusal
refusal_by (SqliteFailure OutOfMemory) = NoMemory
refusal_by other = StoreFault

-- the file isn't opened, and nothing is done but that this is told
pub record IsUnopened {L : Type 0} (old new : Outside) (before now : Desk L) (number : ℕ) : Type 0 where
  pub error : Error
  pub is_named : IsTrue (is_open_error error)
  pub input : new.input ≡ old.input
  pub out : new.out ≡ old.out
  pub desk : now ≡ before
  pub told : TellsOrWants (refusal_by error) old.err new.err number

-- a run over the store of a connection, in which some keeper is left
pub record RunsOver {S L : Type 0} (g : Ghosts S) (book : Book) (words : List (List ℕ)) (conn : Held S) (old new : Outside) (before now : Desk L) (number : ℕ) : Type 0 where
  pub after : Keeper S
  pub runs : RunsStore g book words (unprepared conn) after old new before (record now { tables = tables g after; faults = after.faults }) number

module _ {S : Type 0} (g : Ghosts S) (image : Image) where
  -- it is opened: where the disk is clean, the connection has what the files held, and the run is that over its store
  pub record RunsOpened {L : Type 0} (book : Book) (words : List (List ℕ)) (old new : Outside) (before now : Desk L) (number : ℕ) : Type 0 where
    pub conn : Held S
    pub opened : HasCleanDisk (state g conn) → Opens (state g conn) × IsLive (state g conn)
    pub finds : HasCleanDisk (state g conn) → FindsIn image (state g conn)
    pub runs : RunsOver g book words conn old new before now number

  abbrev pub RunsFile : {L : Type 0} → Book → List (List ℕ) → Outside → Outside → Desk L → Desk L → ℕ → Type 0
  RunsFile book words old new before now number = RunsOpened book words old new before now number ⊎ IsUnopened old new before now number
