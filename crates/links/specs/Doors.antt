-- What a door tells beside its log, and what its calls do to that.
use Rattle.std.specs.Prelude.{◌≡◌, ℕ, ◌+◌, List, [], ◌∷◌, ◌++◌, Option, Some, None, Result, Ok, Err}
use Rattle.streams.specs.declared.failed.Failed.{Failed}
use Rattle.links.specs.declared.door.Heard.{Heard}

-- the port and the number of connections of the `listen` that answered Ok, how many connections are still
-- allowed, how many links were given and not given back, and the count of faults
pub record Doorway : Type 0 where
  pub heard : Option Heard
  pub allowed : ℕ
  pub out : ℕ
  pub faults : ℕ

-- all but the faults is as it was
pub record Stays (old new : Doorway) : Type 0 where
  pub heard : new.heard ≡ old.heard
  pub allowed : new.allowed ≡ old.allowed
  pub out : new.out ≡ old.out

-- `listen` was told a port and a number, which is now that of the connections still allowed
pub record Opened (old new : Doorway) (heard : Heard) : Type 0 where
  pub heard_is : new.heard ≡ Some heard
  pub allowed_is : new.allowed ≡ heard.count
  pub out_is : new.out ≡ old.out

-- a failed `listen` changes the faults alone
abbrev pub Listens : {A : Type 0} → Heard → Doorway → Doorway → Result A Failed → Type 0
Listens heard old new (Ok u) = Opened old new heard
Listens heard old new (Err e) = Stays old new

-- `next` gave a link: one connection less is allowed
pub record Gave (old new : Doorway) : Type 0 where
  pub heard : new.heard ≡ old.heard
  pub allowed : old.allowed ≡ new.allowed + 1
  pub out : new.out ≡ old.out + 1

-- `next` gives none exactly where no connection is still allowed. Where it fails, the number stays.
abbrev pub Gives : {C : Type 0} → Doorway → Doorway → Result (Option C) Failed → Type 0
Gives old new (Ok (Some link)) = Gave old new
Gives old new (Ok None) = Stays old new × (old.allowed ≡ 0)
Gives old new (Err e) = Stays old new

-- `done` got a link back
pub record TookBack (old new : Doorway) : Type 0 where
  pub heard : new.heard ≡ old.heard
  pub allowed : new.allowed ≡ old.allowed
  pub out : old.out ≡ new.out + 1
  pub faults : new.faults ≡ old.faults

-- the log, where it is told, was told before and was this log
abbrev pub KeepsLog : {C : Type 0} → Option (List C) → Option (List C) → Type 0
KeepsLog old new = (log : List _) → new ≡ Some log → old ≡ Some log

-- the log, where it is told, is what was told before and this link at its end
abbrev pub Logs : {C : Type 0} → C → Option (List C) → Option (List C) → Type 0
Logs link old new = (log : List _) → new ≡ Some log → (before : List _) × (old ≡ Some before) × (log ≡ before ++ link ∷ [])
