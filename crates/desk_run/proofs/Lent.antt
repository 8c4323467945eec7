-- A run lends its books as a slice, whose counts are those of the books.
use Rattle.std.proofs.Common.{◌≡◌, ℕ, List, length, map, Option, sym, ap, ◌∙◌, subst}
use Rattle.std.proofs.lemmas.List.{length-map}
use Rattle.links.specs.Wires.{Wire}
use Rattle.links.specs.Doors.{Doorway}
use Rattle.rule_core.specs.Books.{Book}
use Rattle.keep_core.specs.declared.tables.Tables.{Tables}
use Rattle.audit_run.specs.declared.status.Status.{Status}
use Rattle.streams.specs.Told.{Input}
use Rattle.audit_run.specs.Telling.{Writing}
use Rattle.desk_http.specs.Desk.{Desk}
use Rattle.desk_run.specs.Run.{Cause}

pub lent : {L B : Type 0} (book : Book) (words : List (List ℕ)) (old new : Input) (wire : L → Option Wire) (broken : L → ℕ) (door door' : Doorway) (log log' : Option (List L)) (tables tables' : Option Tables) (faults faults' : ℕ) (calls : B → ℕ) (held borrowed given left : List B) (planned : Status) (writing : Writing) → borrowed ≡ held → left ≡ given →
    Cause book words old new (record { wire = wire; broken = broken; door = door; log = log; tables = tables; faults = faults; calls = map calls borrowed }) (record { wire = wire; broken = broken; door = door'; log = log'; tables = tables'; faults = faults'; calls = map calls given }) planned writing →
    Cause book words old new (record { wire = wire; broken = broken; door = door; log = log; tables = tables; faults = faults; calls = map calls held }) (record { wire = wire; broken = broken; door = door'; log = log'; tables = tables'; faults = faults'; calls = map calls left }) planned writing
lent {L = L} book words old new wire broken door door' log log' tables tables' faults faults' calls held borrowed given left planned writing same back cause =
    let before : List _ → Desk L = λ books. record { wire = wire; broken = broken; door = door; log = log; tables = tables; faults = faults; calls = map calls books } in
    let after : List _ → Desk L = λ books. record { wire = wire; broken = broken; door = door'; log = log'; tables = tables'; faults = faults'; calls = map calls books } in
    subst (λ books. Cause book words old new (before books) (after left) planned writing) same (subst (λ books. Cause book words old new (before borrowed) (after books) planned writing) (sym back) cause)

-- as many books are given back as were lent
pub as_many : {B : Type 0} (calls : B → ℕ) (held borrowed given left : List B) → borrowed ≡ held → left ≡ given → length given ≡ length borrowed → length (map calls left) ≡ length (map calls held)
as_many calls held borrowed given left same back kept = length-map left calls ∙ (ap length back ∙ (kept ∙ (ap length same ∙ sym (length-map held calls))))
