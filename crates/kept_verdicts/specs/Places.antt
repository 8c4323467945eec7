-- The places of a list's judgements, by the node that they are on.
use Rattle.std.specs.Prelude.{◌≡◌, ℕ, suc, List, [], ◌∷◌, ◌++◌, ◌==◌, if◌then◌else◌, Vec}
use Rattle.std.specs.Ordering.{nat_cmp}
use Rattle.std.specs.Option.{option_map_or}
use Rattle.std.specs.BTreeMap.{BTreeMap}
use Rattle.std.specs.BTreeMap as tree
use Rattle.std.specs.declared.alloc.Global.{Global}
use Rattle.judge_core.specs.declared.judgement.Judgement.{Judgement}

-- what a map has at a node
abbrev pub at : BTreeMap ℕ (Vec ℕ Global) → ℕ → List ℕ
at places n = option_map_or (λ g. g.items) (tree.get nat_cmp places n) []

-- the places of the judgements on a node, of a list that begins at a place
abbrev pub places_from : ℕ → ℕ → List Judgement → List ℕ
places_from n first [] = []
places_from n first (j ∷ js) = if j.node.0 == n then first ∷ places_from n (suc first) js else places_from n (suc first) js

-- one more place stands at the end of those of its node, and the others stay
abbrev pub HasPut : BTreeMap ℕ (Vec ℕ Global) → BTreeMap ℕ (Vec ℕ Global) → ℕ → ℕ → Type 0
HasPut old new node place = (n : ℕ) → at new n ≡ (if node == n then at old n ++ place ∷ [] else at old n)

-- the map has the places of the judgements on each node
abbrev pub ArePlaced : List Judgement → BTreeMap ℕ (Vec ℕ Global) → Type 0
ArePlaced js places = (n : ℕ) → at places n ≡ places_from n 0 js
