-- Why a store isn't run over, and how that is told.
use Rattle.std.specs.Prelude.{◌≡◌, ℕ, ◌⊎◌, List, ◌++◌, codes, decimal}
use Rattle.streams.specs.Told.{Output}
use Rattle.streams.specs.Streams.{Took, BrokeOff}
use Rattle.audit_run.specs.declared.status.Status.TheVariants as status
use Rattle.audit_run.specs.Status.{status_number, status_line}
use Rattle.store_run.specs.declared.refusal.StoreRefusal.{StoreRefusal}
use Rattle.store_run.specs.declared.refusal.StoreRefusal.TheVariants.{OtherEdition, StoreFault, NoMemory}

-- the number that a run ends with
abbrev pub refusal_number : StoreRefusal → ℕ
refusal_number (OtherEdition number) = 9
refusal_number StoreFault = status_number status.StoreFault
refusal_number NoMemory = status_number status.NoMemory

-- the line that names an edition
abbrev pub edition_line : ℕ → List ℕ
edition_line number = codes "edition fault " ++ decimal number ++ codes "\n"

abbrev pub refusal_line : StoreRefusal → List ℕ
refusal_line (OtherEdition number) = edition_line number
refusal_line StoreFault = status_line status.StoreFault
refusal_line NoMemory = status_line status.NoMemory

-- A line was written whole, and a run ends with the number that was to come; or it broke off, and the number is that of
-- a write fault.
abbrev pub TellsLine : ℕ → List ℕ → Output → Output → ℕ → Type 0
TellsLine planned line old new number =
    ((number ≡ planned) × Took old new line) ⊎ ((number ≡ status_number status.WriteFault) × BrokeOff old new line)

abbrev pub TellsRefusal : StoreRefusal → Output → Output → ℕ → Type 0
TellsRefusal refusal old new number = TellsLine (refusal_number refusal) (refusal_line refusal) old new number

-- a refusal is told, or want of memory in its place
abbrev pub TellsOrWants : StoreRefusal → Output → Output → ℕ → Type 0
TellsOrWants refusal old new number = TellsRefusal refusal old new number ⊎ TellsRefusal NoMemory old new number
