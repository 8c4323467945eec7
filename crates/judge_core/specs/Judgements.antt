-- Which judgement counts for an outcome, and the final outcome that it makes.
use Rattle.std.specs.Prelude.{ℕ, suc, List, [], ◌∷◌, ◌&&◌, ◌==◌, if◌then◌else◌, Bool, Option, Some, None, option_map, reverse}
use Rattle.std.specs.Option.{option_or}
use Rattle.std.specs.List.{find}
use Rattle.std.specs.Str.{bytes_eq}
use Rattle.snap_tree.specs.declared.row.NodeId.{NodeId}
use Rattle.rule_core.specs.declared.info.RuleNo.{RuleNo}
use Rattle.rule_core.specs.declared.verdict.Auto.{Auto}
use Rattle.rule_core.specs.declared.verdict.Auto.TheVariants.{Passed, Failed, CantTell}
use Rattle.judge_core.specs.declared.judgement.Judgement.{Judgement}
use Rattle.judge_core.specs.declared.outcomes.Final.{Final}

-- the judgement is of this rule on this node
abbrev pub is_on : RuleNo → NodeId → Judgement → Bool
is_on rule node j = j.rule.0 == rule.0 && j.node.0 == node.0

-- and this evidence is what was judged
abbrev pub is_of : RuleNo → NodeId → List ℕ → Judgement → Bool
is_of rule node evidence j = is_on rule node j && bytes_eq j.evidence evidence

-- the latest judgement in the list that is of this rule on this node, with this evidence
abbrev pub latest : RuleNo → NodeId → List ℕ → List Judgement → Option Judgement
latest rule node evidence js = find (is_of rule node evidence) (reverse js)

-- the judgement that counts for an outcome with this evidence: passed and failed stand, whatever was judged
abbrev pub counting : Auto → RuleNo → NodeId → List ℕ → List Judgement → Option Judgement
counting Passed rule node evidence js = None
counting Failed rule node evidence js = None
counting CantTell rule node evidence js = latest rule node evidence js

-- the final outcome where no judgement counts for an outcome, and where this one does
abbrev pub judged : Auto → Option Judgement → Final
judged auto None = record { last = auto; hand = [] }
judged auto (Some j) = record { last = j.verdict; hand = j.hand }

-- the final outcome of a rule on a node, where this outcome was found with this evidence
abbrev pub final : Auto → RuleNo → NodeId → List ℕ → List Judgement → Final
final auto rule node evidence js = judged auto (counting auto rule node evidence js)

-- the place of the last item that passes a test: of a later one, else of this one
abbrev pub last_place : {X : Type 0} → (X → Bool) → List X → Option ℕ
last_place test [] = None
last_place test (x ∷ xs) = option_or (option_map suc (last_place test xs)) (if test x then Some 0 else None)

-- the place of the judgement that counts
abbrev pub counting_place : Auto → RuleNo → NodeId → List ℕ → List Judgement → Option ℕ
counting_place Passed rule node evidence js = None
counting_place Failed rule node evidence js = None
counting_place CantTell rule node evidence js = last_place (is_of rule node evidence) js
