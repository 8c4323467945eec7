-- Laws of edits, in the words of a page's trees.
use Rattle.std.specs.Prelude.{◌≡◌, ◌+◌, ◌≤◌, ℕ, List, ◌++◌, length, None, Result, Ok, Err}
use Rattle.std.specs.Option.{IfSome}
use Rattle.snap_tree.specs.declared.row.NodeId.{NodeId}
use Rattle.snap_tree.specs.declared.row.Facts.{Facts}
use Rattle.snap_tree.specs.declared.row.Row.{Row}
use Rattle.snap_tree.specs.declared.fault.TreeFault.{TreeFault}
use Rattle.snap_tree.specs.declared.fault.TreeFault.TheVariants.{ReferenceWeight}
use Rattle.snap_tree.specs.Trees.{Trees}
use Rattle.snap_tree.specs.Grown.{grown}
use Rattle.snap_tree.specs.Rows.{attribute}
use Rattle.snap_tree.specs.Spots.{spot}
use Rattle.snap_tree.specs.Faults.{tree_fault}
use Rattle.snap_edit.specs.declared.edit.Edit.{Edit}
use Rattle.snap_edit.specs.declared.edit.Edit.TheVariants.{SetAttr, DropAttr, SetFacts}
use Rattle.snap_edit.specs.declared.fault.EditKind.{EditKind}
use Rattle.snap_edit.specs.declared.fault.EditKind.TheVariants.{NoNode, Tree}
use Rattle.snap_edit.specs.declared.fault.EditFault.{EditFault}
use Rattle.snap_edit.specs.declared.fault.EditFault.TheVariants.{At}
use Rattle.snap_edit.specs.declared.fault.EditFault.TheVariants as fault
use Rattle.snap_edit.specs.declared.edit.TheConstants.{MOST_EDITS}
use Rattle.snap_edit.specs.Edits.{edited, edited_all}

-- an answer of edits that come after so many others
abbrev pub after_others : ℕ → Result Trees EditFault → Result Trees EditFault
after_others n (Ok t) = Ok t
after_others n (Err (At index kind)) = Err (At (n + index) kind)
after_others n (Err fault.OutOfMemory) = Err fault.OutOfMemory

-- the first edits' fault, or what the later ones give of their trees
abbrev pub then_edits : ℕ → List Edit → Result Trees EditFault → Result Trees EditFault
then_edits n edits (Err fault) = Err fault
then_edits n edits (Ok t) = after_others n (edited_all t edits)

-- a list in two parts is the second part applied to what the first gives
abbrev pub GoesInParts : Type 0
GoesInParts =
    (t : Trees) (xs ys : List Edit)
    → length (xs ++ ys) ≤ MOST_EDITS → edited_all t (xs ++ ys) ≡ then_edits (length xs) ys (edited_all t xs)

-- an attribute that a page's element doesn't have is set, and dropped: the page is as before
abbrev pub DropUndoesSet : Type 0
DropUndoesSet =
    (rows : List Row) (n : NodeId) (name value : List ℕ) (t : Trees)
    → tree_fault rows ≡ None → IfSome (spot (grown rows) n) (λ s. attribute name s.row ≡ None)
    → edited (grown rows) (SetAttr n name value) ≡ Ok t → edited t (DropAttr n name) ≡ Ok (grown rows)

-- a page so edited has one fault at the most: what references find is too heavy
abbrev pub IsHeavyAtMost : Edit → Type 0
IsHeavyAtMost e = (rows : List Row) (f : TreeFault) → tree_fault rows ≡ None → edited (grown rows) e ≡ Err (Tree f) → f ≡ ReferenceWeight

-- other facts for a page's node are refused only where the page doesn't hold the number
abbrev pub FactsBreakNothing : Type 0
FactsBreakNothing =
    (rows : List Row) (n : NodeId) (facts : Facts) (k : EditKind)
    → tree_fault rows ≡ None → edited (grown rows) (SetFacts n facts) ≡ Err k → k ≡ NoNode
