-- What a class tells of a node.
use Rattle.snap_tree.specs.declared.row.NodeId.{NodeId}
use Rattle.snap_tree.specs.Trees.{Trees}
use Rattle.rule_core.specs.declared.info.Class.{Class}
use Rattle.page_keys.specs.Laws.{LooksAt}
use Rattle.rule_core.specs.Reach.{class_keys}

-- what is said of a node looks at what the class does, and at nothing else
abbrev pub Tells : {A : Type 0} → Class → (Trees → NodeId → A) → Type 0
Tells class tells = LooksAt tells (class_keys class)
