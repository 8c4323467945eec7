-- The judgements on each node.
use Rattle.std.specs.Prelude.{◌≡◌, ℕ, List, [], ◌∷◌, ◌++◌, ◌==◌, if◌then◌else◌, filter, map, Vec}
use Rattle.std.specs.Borrow.{Bor}
use Rattle.std.specs.Ordering.{nat_cmp}
use Rattle.std.specs.Option.{option_map_or}
use Rattle.std.specs.BTreeMap.{BTreeMap}
use Rattle.std.specs.BTreeMap as tree
use Rattle.std.specs.declared.alloc.Global.{Global}
use Rattle.judge_core.specs.declared.judgement.Judgement.{Judgement}

-- what a map has at a node
abbrev pub at : BTreeMap ℕ (Vec (Bor Judgement) Global) → ℕ → List Judgement
at by_node n = option_map_or (λ g. map (λ j. j.now) g.items) (tree.get nat_cmp by_node n) []

-- the judgements on a node, in the order of the list
abbrev pub on_node : ℕ → List Judgement → List Judgement
on_node n js = filter (λ j. j.node.0 == n) js

-- one more judgement stands at the end of those on its node, and the others stay
abbrev pub HasPut : BTreeMap ℕ (Vec (Bor Judgement) Global) → BTreeMap ℕ (Vec (Bor Judgement) Global) → Judgement → Type 0
HasPut old new j = (n : ℕ) → at new n ≡ (if j.node.0 == n then at old n ++ j ∷ [] else at old n)

-- the map has the judgements on each node
abbrev pub IsByNode : List Judgement → BTreeMap ℕ (Vec (Bor Judgement) Global) → Type 0
IsByNode js by_node = (n : ℕ) → at by_node n ≡ on_node n js
