-- The law of locality, of a rule and of a book.
use Rattle.std.specs.Prelude.{◌≡◌, ◌≤◌, ◌*◌, length, filter, true, false}
use Rattle.std.specs.List.{Contains, sum_by}
use Rattle.snap_tree.specs.declared.row.NodeId.{NodeId}
use Rattle.snap_tree.specs.Trees.{Document}
use Rattle.snap_tree.specs.Well.{IsWell}
use Rattle.rule_core.specs.declared.info.RuleInfo.{RuleInfo}
use Rattle.rule_core.specs.Books.{Book}
use Rattle.rule_core.specs.Infos.{is_atomic}
use Rattle.rule_core.specs.Pages.{node_count}
use Rattle.rule_core.specs.Reach.{Says, agrees, is_affected, affected_nodes, affected}

-- Two pages that may be versions of one: both are well, and their addresses are equal.
pub record AreVersions (old new : Document) : Type 0 where
  pub old_well : IsWell old.trees
  pub new_well : IsWell new.trees
  pub address : old.address ≡ new.address

-- where they agree on all that the rule looks at, it says the same of the node, evidence included
abbrev pub IsLocal : RuleInfo → Says → Type 0
IsLocal info says = (old new : Document) (n : NodeId) → AreVersions old new → agrees info says old new n ≡ true → says old n ≡ says new n

-- each rule of the book is local
abbrev pub IsLocalBook : Book → Type 0
IsLocalBook book = (info : RuleInfo) → Contains book.infos info → IsLocal info (book.means info.no)

-- on which nodes an edit doesn't affect a rule, it says what it said
abbrev pub KeepsTheRest : RuleInfo → Says → Type 0
KeepsTheRest info says = (old new : Document) (n : NodeId) → AreVersions old new → is_affected info says old new n ≡ false → says old n ≡ says new n

-- the pairs that an edit affects are, of each atomic rule, its affected nodes
abbrev pub CountsByRule : Book → Type 0
CountsByRule book =
    (old new : Document) → length (affected book old new) ≡ sum_by (λ info. length (affected_nodes info (book.means info.no) old new)) (filter is_atomic book.infos)

-- an edit affects at most each atomic rule on each node of the new page
abbrev pub AffectsAtMostAll : Book → Type 0
AffectsAtMostAll book = (old new : Document) → length (affected book old new) ≤ length (filter is_atomic book.infos) * node_count new
