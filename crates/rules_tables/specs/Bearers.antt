-- Which nodes bear a word.
use Rattle.std.specs.Prelude.{◌≡◌, ◌==◌, ◌&&◌, ◌||◌, not, ℕ, List, Bool, false, Option, Some, None}
use Rattle.std.specs.Borrow.{Bor}
use Rattle.std.specs.Cmp.Lexicographic.{slice_cmp}
use Rattle.std.specs.Ordering.{nat_cmp}
use Rattle.std.specs.List.{list_any}
use Rattle.std.specs.Str.{bytes_eq}
use Rattle.std.specs.BTreeMap.{BTreeMap, get_by}
use Rattle.snap_tree.specs.declared.row.NodeId.{NodeId}
use Rattle.rules_tables.specs.declared.bearers.Bearer.{Bearer}

abbrev pub Bearers : Type 0
Bearers = BTreeMap (Bor (List ℕ)) Bearer

-- what a map has at a word
abbrev pub bearer_of : Bearers → List ℕ → Option Bearer
bearer_of bearers word = get_by (λ k. slice_cmp nat_cmp word k.now) bearers

-- with one node more
abbrev pub with_node : Option Bearer → NodeId → Bearer
with_node None n = record { first = n; more = false }
with_node (Some b) n = record { first = b.first; more = b.more || not (b.first.0 == n.0) }

-- some node bears it that isn't this one
abbrev pub has_other : Option Bearer → NodeId → Bool
has_other None n = false
has_other (Some b) n = b.more || not (b.first.0 == n.0)

-- the node bears the word too, and nothing else has changed
abbrev pub HasPut : Bearers → Bearers → List ℕ → NodeId → Type 0
HasPut old new word n = (w : List ℕ) (m : NodeId) → has_other (bearer_of new w) m ≡ (has_other (bearer_of old w) m || (bytes_eq w word && not (n.0 == m.0)))

-- the same of some words
abbrev pub HasPutAll : Bearers → Bearers → List (List ℕ) → NodeId → Type 0
HasPutAll old new words n = (w : List ℕ) (m : NodeId) → has_other (bearer_of new w) m ≡ (has_other (bearer_of old w) m || (list_any (bytes_eq w) words && not (n.0 == m.0)))
