-- What the calls of a keeper do to its tables, where it tells them, and to its count of faults.
use Rattle.std.specs.Prelude.{◌≡◌, ℕ, ◌≤◌, Option, Some, Result, IfOk, OnOk, OnErr, IsErrOf}
use Rattle.counts.specs.Counts.{Rose}
use Rattle.keep_core.specs.declared.fault.KeepFault.{KeepFault}
use Rattle.keep_core.specs.declared.fault.KeepFault.TheVariants.{Failed}
use Rattle.keep_core.specs.declared.change.Change.{Change}
use Rattle.keep_core.specs.declared.tables.Tables.{Tables}
use Rattle.keep_core.specs.Changes.{changed}

-- what is told at a call's exit was told at its entry
abbrev pub Stays : Option Tables → Option Tables → Type 0
Stays old new = (t : Tables) → new ≡ Some t → old ≡ Some t

-- what is told at its exit is what the change makes of what was told at its entry
abbrev pub Turns : Change → Option Tables → Option Tables → Type 0
Turns change old new = (t : Tables) → new ≡ Some t → (s : Tables) × (old ≡ Some s) × (t ≡ changed change s)

-- the count never falls, and Failed comes only where it rose
pub record CountsFaults {A : Type 0} (before now : ℕ) (result : Result A KeepFault) : Type 0 where
  pub never_falls : before ≤ now
  pub failed : IsErrOf result Failed → Rose before now

-- a call that reads: it answers this of the tables, and changes none
pub record Reads {A : Type 0} (answer : Tables → A) (old new : Option Tables) (result : Result A KeepFault) : Type 0 where
  pub stays : Stays old new
  pub answers : IfOk result (λ a. (t : Tables) → new ≡ Some t → a ≡ answer t)

-- a call that makes a change, or none
pub record Makes {A : Type 0} (change : Change) (old new : Option Tables) (result : Result A KeepFault) : Type 0 where
  pub made : OnOk result (Turns change old new)
  pub kept : OnErr result (Stays old new)
