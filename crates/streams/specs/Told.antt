-- What objects of the outside tell. Those in memory tell their bytes, and no real stream does.
use Rattle.std.specs.Prelude.{ℕ, List, Option, None}

-- a source: its count of faults, and what it has left
pub record Input : Type 0 where
  pub faults : ℕ
  pub left : Option (List ℕ)

-- a source that tells its count alone
abbrev pub counted : ℕ → Input
counted faults = record { faults = faults; left = None }

-- a sink: its count of faults, and what it holds
pub record Output : Type 0 where
  pub faults : ℕ
  pub held : Option (List ℕ)

-- all that a run meets: a source, standard output and standard error
pub record Outside : Type 0 where
  pub input : Input
  pub out : Output
  pub err : Output
