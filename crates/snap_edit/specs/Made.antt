-- What a step gives of an edit: the rows of its trees, or its fault.
use Rattle.std.specs.Prelude.{◌≡◌, ℕ, List, Option, Some, None, Result, Ok, Err}
use Rattle.snap_tree.specs.declared.row.Row.{Row}
use Rattle.snap_tree.specs.Trees.{Trees, rows_of}
use Rattle.snap_tree.specs.Grown.{grown}
use Rattle.snap_tree.specs.Well.{AreApart}
use Rattle.snap_tree.specs.Naming.{AreNamed}
use Rattle.snap_tree.specs.declared.fault.TreeFault.{TreeFault}
use Rattle.snap_edit.specs.declared.fault.EditKind.{EditKind}
use Rattle.snap_edit.specs.declared.fault.EditKind.TheVariants.{Tree}
use Rattle.snap_edit.specs.declared.fault.EditFault.{EditFault}
use Rattle.snap_edit.specs.declared.fault.EditFault.TheVariants.{At}
use Rattle.snap_edit.specs.declared.fault.EditFault.TheVariants as fault
use Rattle.snap_edit.specs.declared.fault.EditRefusal.{EditRefusal}
use Rattle.snap_edit.specs.declared.fault.EditRefusal.TheVariants.{Kind, OutOfMemory}

-- rows whose numbers differ and which name the nodes above them, as a page's do
pub record IsPage (rows : List Row) : Type 0 where
  pub apart : AreApart rows
  pub named : AreNamed None (grown rows)

-- these are the rows of the answered trees, in which each node names the one above it
abbrev pub Makes : List Row → Result Trees EditKind → Type 0
Makes rows (Err kind) = ⊥
Makes rows (Ok t) = (rows_of t ≡ rows) × AreNamed None t

-- a refusal names the answered fault, unless memory ran out
abbrev pub Declines : EditRefusal → Result Trees EditKind → Type 0
Declines (Kind kind) answer = answer ≡ Err kind
Declines OutOfMemory answer = Unit {0}

-- the fault of the edit of this index
abbrev pub fault_at : ℕ → EditRefusal → EditFault
fault_at index (Kind kind) = At index kind
fault_at index OutOfMemory = fault.OutOfMemory

-- a refusal names the fault of the edited rows, with this index, unless memory ran out
abbrev pub BreaksAt : ℕ → EditFault → Option TreeFault → Type 0
BreaksAt index (At i kind) (Some f) = At i kind ≡ At index (Tree f)
BreaksAt index (At i kind) None = ⊥
BreaksAt index fault.OutOfMemory found = Unit {0}
