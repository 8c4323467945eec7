-- What a pass over the rows keeps of each open node.
use Rattle.std.specs.Prelude.{◌≡◌, ℕ, List, [], ◌∷◌, map, reverse, Bool, false, if◌then◌else◌, Option, Some}
use Rattle.snap_tree.specs.declared.row.Row.{Row}
use Rattle.snap_tree.specs.declared.build.Opened.{Opened}
use Rattle.snap_tree.specs.declared.fault.TreeFault.{TreeFault}
use Rattle.snap_tree.specs.declared.fault.BuildFault.{BuildFault}
use Rattle.snap_tree.specs.declared.fault.BuildFault.TheVariants.{Tree, OutOfMemory}
use Rattle.number_tables.specs.declared.table.NumberTable.{NumberTable}
use Rattle.snap_tree.specs.Grown.{is_number, grown}
use Rattle.snap_tree.specs.Faults.{open_rows}
use Rattle.snap_tree.specs.Places.{IsPlaces}
use Rattle.snap_tree.specs.Rows.{is_text}

abbrev pub opened : Row → Opened
opened r = record { id = r.id; is_text = is_text r }

-- the nodes from the row's parent up, of those that are open
abbrev pub from_opened : Row → List Opened → List Opened
from_opened r [] = []
from_opened r (x ∷ xs) = if is_number r.parent x.id then x ∷ xs else from_opened r xs

abbrev pub is_below : List Opened → Bool
is_below [] = false
is_below (parent ∷ above) = parent.is_text

-- a refusal names this fault, unless memory ran out
abbrev pub Breaks : BuildFault → Option TreeFault → Type 0
Breaks (Tree f) fault = fault ≡ Some f
Breaks OutOfMemory fault = Unit {0}

-- the rows were taken in: the place of each number, and the open nodes with the deepest at the end
pub record HasEntered (places : NumberTable ℕ) (path : List Opened) (rows : List Row) : Type 0 where
  pub placed : IsPlaces places rows
  pub opens : reverse path ≡ map opened (open_rows (grown rows))
