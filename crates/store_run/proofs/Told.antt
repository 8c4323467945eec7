-- A store that is refused, of which the line was told, or that of want of memory in its place.
use Rattle.std.proofs.Common.{◌≡◌, false, ℕ, ◌≤◌, inl, inr, List, Option, None, refl, sym, ap, subst}
use Rattle.sqlite_trees.specs.declared.store.Store.{Ghosts}
use Rattle.links.specs.Wires.{Wire}
use Rattle.links.specs.Doors.{Doorway}
use Rattle.rule_core.specs.Books.{Book}
use Rattle.streams.specs.Told.{Input, Output, Outside}
use Rattle.keep_sql.specs.declared.keeper.Prepared.{Prepared}
use Rattle.keep_sql.specs.declared.keeper.Prepared.TheVariants as prepared
use Rattle.keep_sql.specs.Preparing.{is_taken}
use Rattle.keep_sql.specs.Keeper.{Keeper, tables, told_of, held, IsNoted, Across, Between, FoundEdition, StaysStored, LeavesPrepared}
use Rattle.desk_http.specs.Desk.{Desk}
use Rattle.store_run.specs.declared.refusal.StoreRefusal.{StoreRefusal}
use Rattle.store_run.specs.declared.refusal.StoreRefusal.TheVariants.{OtherEdition, NoMemory}
use Rattle.store_run.specs.Refusal.{edition_line, TellsLine, TellsOrWants}
use Rattle.store_run.specs.Run.{IsUntouched, RefusalCause, IsRefused, RunsStore}

pub refused : {S L : Type 0} (g : Ghosts S) (refusal : StoreRefusal) (keeper keeper' : Keeper S) (old new : Outside) (before now : Desk L) (number : ℕ) → RefusalCause g refusal keeper keeper' → Between g StaysStored (held keeper) keeper'.waiting → LeavesPrepared g keeper keeper' → IsUntouched old new before now →
    TellsOrWants refusal old.err new.err number → IsRefused g keeper keeper' old new before now number
refused g refusal keeper keeper' old new before now number cause stays crash untouched (inl told) = record { refusal = refusal; cause = cause; stays = stays; crash = crash; untouched = untouched; told = told }
refused g refusal keeper keeper' old new before now number cause stays crash untouched (inr wants) = record { refusal = NoMemory; cause = tt; stays = stays; crash = crash; untouched = untouched; told = wants }

-- where nothing was done but that
pub store_refused : {S L : Type 0} (g : Ghosts S) (book : Book) (words : List (List ℕ)) (keeper keeper' : Keeper S) (input : Input) (out err err' : Output) (wire : L → Option Wire) (broken : L → ℕ) (door : Doorway) (log : Option (List L)) (calls : List ℕ) (number : ℕ) (refusal : StoreRefusal) →
    TellsOrWants refusal err err' number → RefusalCause g refusal keeper keeper' → Between g StaysStored (held keeper) keeper'.waiting → LeavesPrepared g keeper keeper' → keeper'.ready ≡ None → keeper.faults ≤ keeper'.faults →
    RunsStore g book words keeper keeper' (record { input = input; out = out; err = err }) (record { input = input; out = out; err = err' })
    (record { wire = wire; broken = broken; door = door; log = log; tables = tables g keeper; faults = keeper.faults; calls = calls })
    (record { wire = wire; broken = broken; door = door; log = log; tables = tables g keeper'; faults = keeper'.faults; calls = calls }) number
store_refused g book words keeper keeper' input out err err' wire broken door log calls number refusal told cause stays crash none falls =
    inr (refused g refusal keeper keeper' _ _ _ _ number cause stays crash
    (record { input = refl; out = refl; door = refl; log = refl; calls = refl; tells_none = ap (told_of g) none; never_falls = falls }) told)

-- why a store of another edition is refused
pub other_edition : {S : Type 0} (g : Ghosts S) (keeper keeper' : Keeper S) (p : Prepared) (number : ℕ) → p ≡ prepared.OtherEdition number → ((n : ℕ) → p ≡ prepared.OtherEdition n → is_taken n ≡ false) → IsNoted g p keeper' →
    Across g (FoundEdition p) (held keeper) (held keeper') → RefusalCause g (OtherEdition number) keeper keeper'
other_edition g keeper keeper' p number is other noted found =
    (other number is, subst (λ q. IsNoted g q keeper') is noted, subst (λ q. Across g (FoundEdition q) (held keeper) (held keeper')) is found)

-- the line on an edition was told
pub told_edition : (number planned : ℕ) (line : List ℕ) (old new : Output) (result : ℕ) → TellsLine planned line old new result → planned ≡ 9 → line ≡ edition_line number → TellsOrWants (OtherEdition number) old new result
told_edition number planned line old new result told nine is =
    inl (subst (λ n. TellsLine n (edition_line number) old new result) nine (subst (λ l. TellsLine planned l old new result) is told))

pub same_refusal : (refusal : StoreRefusal) (number : ℕ) (old new : Output) (result : ℕ) → TellsOrWants (OtherEdition number) old new result → refusal ≡ OtherEdition number → TellsOrWants refusal old new result
same_refusal refusal number old new result told is = subst (λ r. TellsOrWants r old new result) (sym is) told
