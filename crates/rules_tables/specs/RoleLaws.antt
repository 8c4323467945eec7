-- What the role of a cell depends on.
use Rattle.std.specs.Prelude.{◌≡◌, true}
use Rattle.snap_tree.specs.declared.row.Row.{Row}
use Rattle.acc_tree.specs.declared.above.Above.{Above}
use Rattle.acc_tree.specs.Frames.{under}
use Rattle.acc_tree.specs.Roles.{role_at}
use Rattle.rules_tables.specs.TableRows.{is_row_group, is_table_row, is_cell}

-- of what is above a cell, its role depends on the nearest table alone
abbrev pub DependsOnTable : Above → Above → Row → Type 0
DependsOnTable a b cell = is_cell cell ≡ true → a.table ≡ b.table → role_at a cell ≡ role_at b cell

-- a row group and a row are no table
abbrev pub KeepsTable : Above → Row → Type 0
KeepsTable above row = (is_row_group row ≡ true → (under above row).table ≡ above.table) × (is_table_row row ≡ true → (under above row).table ≡ above.table)
