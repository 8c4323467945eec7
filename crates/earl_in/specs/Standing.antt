-- What the indexes have: the row of each rule on each node, and the judgements that stand.
use Rattle.std.specs.Prelude.{◌≡◌, List, [], ◌∷◌, ◌++◌, Bool, not, if◌then◌else◌, Option, Some, None, option_map}
use Rattle.std.specs.Option.{option_or}
use Rattle.std.specs.Borrow.{Bor}
use Rattle.std.specs.BTreeMap.{BTreeMap}
use Rattle.std.specs.BTreeMap as tree
use Rattle.std.specs.BTreeSet.{BTreeSet}
use Rattle.std.specs.BTreeSet as sorted
use Rattle.rule_core.specs.declared.verdict.Auto.{Auto}
use Rattle.rule_core.specs.declared.verdict.Auto.TheVariants as auto
use Rattle.judge_core.specs.declared.judgement.Judgement.{Judgement}
use Rattle.judge_core.specs.declared.outcomes.OutRow.{OutRow}
use Rattle.judge_core.specs.RowLookups.{row_at, is_row_on}
use Rattle.earl_in.specs.declared.lent.Lent.{Lent}
use Rattle.earl_in.specs.declared.lent.Rank.{Rank}
use Rattle.earl_in.specs.declared.lent.Rank.TheVariants as rank
use Rattle.earl_in.specs.declared.places.Place.{Place}
use Rattle.earl_in.specs.contracts.places.PlaceOrd.TheImpl as place
use Rattle.earl_in.specs.contracts.lent.LentOrd.TheImpl as lent
use Rattle.earl_in.specs.Taking.{stands}

-- ---- rows

-- the row that a map has of a place
abbrev pub in_places : BTreeMap Place (Bor OutRow) → Place → Option OutRow
in_places places p = option_map (λ r. r.now) (tree.get (place.ghosts).cmp places p)

-- each place has its row
abbrev pub HasRows : BTreeMap Place (Bor OutRow) → List OutRow → Type 0
HasRows places rows = (p : Place) → in_places places p ≡ row_at p.rule p.node rows

-- a row was put, unless its place had one
abbrev pub HasRow : BTreeMap Place (Bor OutRow) → BTreeMap Place (Bor OutRow) → OutRow → Type 0
HasRow old new row = (p : Place) → in_places new p ≡ option_or (in_places old p) (if is_row_on p.rule p.node row then Some row else None)

-- ---- judgements

abbrev pub ranked : Auto → Rank
ranked auto.Passed = rank.Passed
ranked auto.Failed = rank.Failed
ranked auto.CantTell = rank.CantTell

abbrev pub verdict_of : Rank → Auto
verdict_of rank.Passed = auto.Passed
verdict_of rank.Failed = auto.Failed
verdict_of rank.CantTell = auto.CantTell

-- the judgement with texts of its own
abbrev pub owned : Lent → Judgement
owned l = record { rule = l.rule; node = l.node; verdict = verdict_of l.verdict; hand = l.hand.now; note = l.note.now; evidence = l.evidence.now }

-- a set has the judgements of a list
abbrev pub AreStanding : BTreeSet Lent → List Judgement → Type 0
AreStanding standing js = (l : Lent) → sorted.contains (lent.ghosts).cmp standing l ≡ stands (owned l) js

-- a judgement stands beside those of a list, and it is told whether it didn't before
pub record HasPut (js : List Judgement) (j : Judgement) (fresh : Bool) (standing : BTreeSet Lent) : Type 0 where
  pub told : fresh ≡ not (stands j js)
  pub stand : AreStanding standing (js ++ j ∷ [])
