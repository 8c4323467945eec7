-- What is kept of the ids of a table's cells.
use Rattle.std.specs.Prelude.{◌≡◌, ◌&&◌, ◌||◌, ℕ, List, Some}
use Rattle.std.specs.List.{AllByRecursion}
use Rattle.snap_tree.specs.declared.row.NodeId.{NodeId}
use Rattle.snap_tree.specs.declared.row.Row.{Row}
use Rattle.snap_tree.specs.Trees.{Trees}
use Rattle.rules_tables.specs.declared.table_ids.TableIds.{TableIds}
use Rattle.rules_tables.specs.Bearers.{Bearers, bearer_of, has_other}
use Rattle.rules_tables.specs.HeadersReferToCells.{is_other_named, refers_inside}
use Rattle.rules_tables.specs.TableRows.{is_cell}
use Rattle.rules_tables.specs.Tables.{below}

-- a row's id is noted too
abbrev pub HasId : Bearers → Bearers → Row → Type 0
HasId old new row = (w : List ℕ) (m : NodeId) → has_other (bearer_of new w) m ≡ (has_other (bearer_of old w) m || is_other_named m w row)

-- the same of a row that is a cell; of another row nothing is noted
abbrev pub HasCell : Bearers → Bearers → Row → Type 0
HasCell old new row = (w : List ℕ) (m : NodeId) → has_other (bearer_of new w) m ≡ (has_other (bearer_of old w) m || (is_cell row && is_other_named m w row))

-- the ids of a table's cells are noted too
abbrev pub HasIds : Bearers → Bearers → Trees → Type 0
HasIds old new table = (w : List ℕ) (m : NodeId) → has_other (bearer_of new w) m ≡ (has_other (bearer_of old w) m || refers_inside table m w)

-- the ids of a table's cells
abbrev pub AreIds : Trees → Bearers → Type 0
AreIds table ids = (w : List ℕ) (m : NodeId) → has_other (bearer_of ids w) m ≡ refers_inside table m w

-- those of the table of a number, on a page
abbrev pub AreIdsOfPage : Trees → TableIds → Type 0
AreIdsOfPage trees ids = (table : Trees) → Some table ≡ below trees ids.table → AreIds table ids.ids

abbrev pub AreAllIds : Trees → List TableIds → Type 0
AreAllIds trees tables = AllByRecursion (AreIdsOfPage trees) tables
