-- What a name looks at: the node, its subtree, and what references find.
use Rattle.std.specs.Prelude.{Bool, true, false}
use Rattle.snap_tree.specs.declared.row.NodeId.{NodeId}
use Rattle.page_keys.specs.Classes.{sub_keys}
use Rattle.page_keys.specs.Laws.{LooksAt}
use Rattle.page_keys.specs.Nodes.{node_keys}
use Rattle.acc_name.specs.declared.named.How.{How}
use Rattle.acc_name.specs.Names.{says_in, name_of}

-- the name, with the clause that gave it
abbrev pub NameLooks : Type 0
NameLooks = LooksAt name_of sub_keys

-- what a node says in the name of another, however it is come to, and whether hidden nodes count or not
abbrev pub OpenLooks : NodeId → How → Bool → Type 0
OpenLooks node how hidden = LooksAt (λ trees n. says_in trees node n true how hidden) sub_keys

-- where no reference is open, it looks at no reference
abbrev pub ClosedLooks : NodeId → How → Bool → Type 0
ClosedLooks node how hidden = LooksAt (λ trees n. says_in trees node n false how hidden) node_keys
