-- A run over a file that was opened.
use Rattle.std.proofs.Common.{◌≡◌, ℕ, inr, List, Option, None, IsTrue, refl, subst}
use Rattle.links.specs.Wires.{Wire}
use Rattle.links.specs.Doors.{Doorway}
use Rattle.rule_core.specs.Books.{Book}
use Rattle.streams.specs.Told.{Input, Output, Outside}
use Rattle.sqlite_wal.specs.Recovery.{Image}
use Rattle.sqlite_trees.specs.declared.store.Store.{Ghosts}
use Rattle.sqlite.specs.declared.error.Error.{Error}
use Rattle.sqlite.specs.Opening.{is_open_error}
use Rattle.sqlite.specs.Held.{Held}
use Rattle.keep_sql.specs.Keeper.{Keeper, tables}
use Rattle.desk_http.specs.Desk.{Desk}
use Rattle.store_run.specs.declared.refusal.StoreRefusal.{StoreRefusal}
use Rattle.store_run.specs.Refusal.{TellsOrWants}
use Rattle.store_run.specs.Run.{RunsStore}
use Rattle.store_run.specs.Opening.{unprepared, refusal_by, RunsOver, RunsFile}

module _ {S L : Type 0} (g : Ghosts S) (book : Book) (words : List (List ℕ)) (wire : L → Option Wire) (broken : L → ℕ) where
  abbrev desk : Doorway → Option (List L) → List ℕ → Keeper S → Desk L
  desk door log calls k = record { wire = wire; broken = broken; door = door; log = log; tables = tables g k; faults = k.faults; calls = calls }

  pub run_is_over : (conn : Held S) (k after : Keeper S) (old new : Outside) (door door' : Doorway) (log log' : Option (List L)) (calls calls' : List ℕ) (number : ℕ)
      → k ≡ unprepared conn → RunsStore g book words k after old new (desk door log calls k) (desk door' log' calls' after) number
      → RunsOver g book words conn old new (record { wire = wire; broken = broken; door = door; log = log; tables = None; faults = 0; calls = calls })
      (record { wire = wire; broken = broken; door = door'; log = log'; tables = None; faults = 0; calls = calls' }) number
  run_is_over conn k after old new door door' log log' calls calls' number is runs =
      record { after = after; runs = subst (λ (m : Keeper S). RunsStore g book words m after old new (desk door log calls m) (desk door' log' calls' after) number) is runs }

  pub not_opened : (image : Image) (error : Error) (refusal : StoreRefusal) (input : Input) (out err err' : Output) (door : Doorway) (log : Option (List L)) (calls : List ℕ) (number : ℕ)
      → IsTrue (is_open_error error) → refusal ≡ refusal_by error → TellsOrWants refusal err err' number
      → RunsFile g image book words (record { input = input; out = out; err = err }) (record { input = input; out = out; err = err' })
      (record { wire = wire; broken = broken; door = door; log = log; tables = None; faults = 0; calls = calls })
      (record { wire = wire; broken = broken; door = door; log = log; tables = None; faults = 0; calls = calls }) number
  not_opened image error refusal input out err err' door log calls number named is told =
      inr
      (record {
        error = error;
        is_named = named;
        input = refl;
        out = refl;
        desk = refl;
        told = subst (λ (r : StoreRefusal). TellsOrWants r err err' number) is told;
      })
