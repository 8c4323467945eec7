-- What of each node of a page is the same, by its number.
use Rattle.std.specs.Prelude.{◌≡◌, ◌==◌, ℕ, List, [], ◌∷◌, Bool, if◌then◌else◌, Option, Some, None, option_map}
use Rattle.number_tables.specs.declared.table.NumberTable.{NumberTable}
use Rattle.number_tables.specs.Tables.{at}
use Rattle.snap_tree.specs.declared.row.NodeId.{NodeId}
use Rattle.snap_tree.specs.Lookups.{node}
use Rattle.snap_tree.specs.Trees.{Trees}
use Rattle.page_changes.specs.declared.by_number.Agreement.{Agreement}
use Rattle.page_changes.specs.declared.marks.Marks.{Marks}
use Rattle.page_changes.specs.Marks.{marks_of}

-- what marks say that is asked of a number
abbrev pub agreed : Marks → Agreement
agreed m = record { itself = m.itself; own = m.own; tree = m.tree }

-- what the first marks of a number in a list say
abbrev pub first_agreed : ℕ → List Marks → Option Agreement
first_agreed n [] = None
first_agreed n (m ∷ list) = if m.node.0 == n then Some (agreed m) else first_agreed n list

-- each number has what its first marks say
abbrev pub HasEach : List Marks → NumberTable Agreement → Type 0
HasEach list table = (n : ℕ) → at table n ≡ first_agreed n list

-- each node of the old page has what its marks say, and no other number has something
abbrev pub AreByNumber : Trees → Trees → NumberTable Agreement → Type 0
AreByNumber old new table = (n : NodeId) → at table n.0 ≡ option_map (λ row. agreed (marks_of old new row.id)) (node old n)

-- of a number that the old page doesn't hold: its keys are the same where the new page doesn't either
abbrev pub strange : Bool → Agreement
strange lost = record { itself = lost; own = lost; tree = lost }
