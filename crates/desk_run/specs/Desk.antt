-- How much of the desk that a run meets beside its streams was used.
use Rattle.std.specs.Prelude.{◌≡◌, ℕ, List, take, drop}
use Rattle.desk_http.specs.Desk.{Desk}

-- the desk with the first n books alone
abbrev pub with_first : {L : Type 0} → ℕ → Desk L → Desk L
with_first n desk = record desk { calls = take n desk.calls }

-- the door is as it was
pub record SameDoor {L : Type 0} (old new : Desk L) : Type 0 where
  pub door : new.door ≡ old.door
  pub log : new.log ≡ old.log

-- the books past the first n judged nothing
abbrev pub Spares : ℕ → List ℕ → List ℕ → Type 0
Spares n old new = drop n new ≡ drop n old

-- all but the counts of the first n books is as it was
pub record OnlyJudged {L : Type 0} (n : ℕ) (old new : Desk L) : Type 0 where
  pub door : new.door ≡ old.door
  pub log : new.log ≡ old.log
  pub tables : new.tables ≡ old.tables
  pub faults : new.faults ≡ old.faults
  pub spares : Spares n old.calls new.calls
