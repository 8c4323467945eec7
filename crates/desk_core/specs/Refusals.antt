-- Refusals, and the one order in which they are looked for.
use Rattle.std.specs.Prelude.{Bool, if◌then◌else◌, Option, Some, None, Result, Err}
use Rattle.keep_core.specs.declared.fault.KeepFault.{KeepFault}
use Rattle.keep_core.specs.declared.fault.KeepFault.TheVariants as kept
use Rattle.desk_core.specs.declared.refusal.Refusal.{Refusal}
use Rattle.desk_core.specs.declared.refusal.Refusal.TheVariants.{KeeperFault, OutOfMemory}
use Rattle.desk_core.specs.declared.decided.Decided.{Decided}

-- the refusal for a keeper's fault
abbrev pub of_keep_fault : KeepFault → Refusal
of_keep_fault kept.Failed = KeeperFault
of_keep_fault kept.OutOfMemory = OutOfMemory

-- what is decided on a request: a change and a reply, or the first refusal
abbrev pub Decision : Type 0
Decision = Result Decided Refusal

-- what follows where this holds, and else a refusal
abbrev pub unless : Bool → Refusal → Decision → Decision
unless holds refusal next = if holds then next else Err refusal

-- what follows with this, where it is there, and else a refusal
abbrev pub on : {X : Type 0} → Option X → Refusal → (X → Decision) → Decision
on None refusal next = Err refusal
on (Some x) refusal next = next x

-- what follows where nothing stands against it, and else that
abbrev pub unless_refused : Option Refusal → Decision → Decision
unless_refused None next = next
unless_refused (Some refusal) next = Err refusal
