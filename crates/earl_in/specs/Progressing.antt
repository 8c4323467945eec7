-- What was taken so far, while claims are taken.
use Rattle.std.specs.Prelude.{◌≡◌, ◌≤◌, ◌+◌, List, ◌++◌, Option}
use Rattle.std.specs.BTreeSet.{BTreeSet}
use Rattle.judge_core.specs.declared.judgement.Judgement.{Judgement}
use Rattle.earl_in.specs.declared.lent.Lent.{Lent}
use Rattle.earl_in.specs.declared.taking.Progress.{Progress}
use Rattle.earl_in.specs.declared.taking.Taken.{Taken}
use Rattle.earl_in.specs.Taking.{with_entry}
use Rattle.earl_in.specs.Standing.{AreStanding}

abbrev pub so_far : Progress → Taken
so_far p = record { added = p.added.items; known = p.known; skipped = p.skipped }

-- one entry more was taken, and what stands are the judgements from before with those added
pub record HasTaken (js : List Judgement) (entry : Option Judgement) (old new : Progress) (standing : BTreeSet Lent) : Type 0 where
  pub taken : so_far new ≡ with_entry js (so_far old) entry
  pub stand : AreStanding standing (js ++ new.added.items)
  pub count : new.known + new.skipped ≤ old.known + old.skipped + 1
