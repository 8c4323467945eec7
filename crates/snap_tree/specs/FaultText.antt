-- How the faults of a tree are printed: each by its number and its name, and with its node where it has one.
use Rattle.std.specs.Prelude.{ℕ, List, [], ◌++◌, Option, Some, None, codes, decimal}
use Rattle.snap_tree.specs.declared.row.NodeId.{NodeId}
use Rattle.snap_tree.specs.declared.fault.TreeFault.{TreeFault}
use Rattle.snap_tree.specs.declared.fault.TreeFault.TheVariants.{Empty, TooMany, DoubleNumber, ParentUnknownOrNotOpen, TooDeep, TooManyAttrs, TextTooLong, DoubleAttr, TextHasKids, ReferenceWeight, RootNotElement, EmptyName}
use Rattle.snap_tree.specs.declared.fault.BuildFault.{BuildFault}
use Rattle.snap_tree.specs.declared.fault.BuildFault.TheVariants.{Tree, OutOfMemory}

abbrev pub fault_number : TreeFault → ℕ
fault_number Empty = 1
fault_number TooMany = 2
fault_number (DoubleNumber n) = 3
fault_number (ParentUnknownOrNotOpen n) = 4
fault_number (TooDeep n) = 5
fault_number (TooManyAttrs n) = 6
fault_number (TextTooLong n) = 7
fault_number (DoubleAttr n) = 8
fault_number (TextHasKids n) = 9
fault_number ReferenceWeight = 10
fault_number (RootNotElement n) = 11
fault_number (EmptyName n) = 12

abbrev pub fault_name : TreeFault → List ℕ
fault_name Empty = codes "Empty"
fault_name TooMany = codes "TooMany"
fault_name (DoubleNumber n) = codes "DoubleNumber"
fault_name (ParentUnknownOrNotOpen n) = codes "ParentUnknownOrNotOpen"
fault_name (TooDeep n) = codes "TooDeep"
fault_name (TooManyAttrs n) = codes "TooManyAttrs"
fault_name (TextTooLong n) = codes "TextTooLong"
fault_name (DoubleAttr n) = codes "DoubleAttr"
fault_name (TextHasKids n) = codes "TextHasKids"
fault_name ReferenceWeight = codes "ReferenceWeight"
fault_name (RootNotElement n) = codes "RootNotElement"
fault_name (EmptyName n) = codes "EmptyName"

-- the node whose row has the fault; none where the fault is of the whole tree
abbrev pub fault_node : TreeFault → Option NodeId
fault_node Empty = None
fault_node TooMany = None
fault_node (DoubleNumber n) = Some n
fault_node (ParentUnknownOrNotOpen n) = Some n
fault_node (TooDeep n) = Some n
fault_node (TooManyAttrs n) = Some n
fault_node (TextTooLong n) = Some n
fault_node (DoubleAttr n) = Some n
fault_node (TextHasKids n) = Some n
fault_node ReferenceWeight = None
fault_node (RootNotElement n) = Some n
fault_node (EmptyName n) = Some n

abbrev pub at_node : Option NodeId → List ℕ
at_node None = []
at_node (Some node) = codes " node " ++ decimal node.0

-- how a fault is printed: its number, its name, and its node where there is one
abbrev pub fault_text : TreeFault → List ℕ
fault_text fault = decimal (fault_number fault) ++ codes " " ++ fault_name fault ++ at_node (fault_node fault)

abbrev pub build_fault_text : BuildFault → List ℕ
build_fault_text (Tree fault) = fault_text fault
build_fault_text OutOfMemory = codes "no memory"
