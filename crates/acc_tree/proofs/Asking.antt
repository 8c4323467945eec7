-- Most implicit roles don't depend on what is above, and some on one thing alone.
use Rattle.std.proofs.Common.{◌≡◌, true, false, if◌then◌else◌, Option, Some, option_and_then, refl, ap}
use Rattle.std.specs.Option.{option_or, option_map_or}
use Rattle.aria_tables.specs.declared.role.Role.{Role}
use Rattle.aria_tables.specs.declared.role.Role.TheVariants as role
use Rattle.snap_tree.specs.declared.row.NodeId.{NodeId}
use Rattle.snap_tree.specs.declared.row.Row.{Row}
use Rattle.acc_tree.specs.declared.above.Above.{Above}
use Rattle.acc_tree.specs.declared.above.TableAbove.{TableAbove}
use Rattle.acc_tree.specs.declared.tags.Tag.{Tag}
use Rattle.acc_tree.specs.declared.tags.Tag.TheVariants as tag
use Rattle.acc_tree.specs.Frames.{is_table, table_at, under}
use Rattle.acc_tree.specs.Roles.{explicit, role_at, table_role, is_grid, tag_role, asks_above}
use Rattle.acc_tree.specs.Tags.{html_tag}

pub not_asked : (a b : Above) (row : Row) (t : Tag) → asks_above t ≡ false → tag_role a row t ≡ tag_role b row t
unfolding tag_role
not_asked a b row tag.Footer h = cc
not_asked a b row tag.Header h = cc
not_asked a b row tag.Li h = cc
not_asked a b row tag.Td h = cc
not_asked a b row _ h = refl

-- the role of a table doesn't depend on it
table_by : (above : Above) (row : Row) (t : Option Tag) → is_table t ≡ true → table_role row ≡ option_or (explicit row) (option_and_then (tag_role above row) t)
unfolding tag_role
table_by above row (Some tag.Table) h = refl
table_by above row _ h = cc

pub table_alone : (above : Above) (row : Row) → is_table (html_tag row) ≡ true → table_role row ≡ role_at above row
table_alone above row h = table_by above row (html_tag row) h

-- ---- what one tag asks

pub asks_list : (a b : Above) (row : Row) → a.in_list ≡ b.in_list → tag_role a row tag.Li ≡ tag_role b row tag.Li
unfolding tag_role
asks_list a b row h = ap (λ listed. Some (if listed then role.Listitem else role.Generic)) h

pub asks_table : (a b : Above) (row : Row) → a.table ≡ b.table → tag_role a row tag.Td ≡ tag_role b row tag.Td
unfolding tag_role
asks_table a b row h = ap (λ table. Some (if option_map_or (λ t. is_grid t.role) table false then role.Gridcell else role.Cell)) h

abbrev table_of : NodeId → Option Role → Option TableAbove
table_of n r = Some (record { node = n; role = r })

-- a table is the nearest one of those below it
pub is_nearest : (above : Above) (row : Row) → is_table (html_tag row) ≡ true → Some (table_at row) ≡ (under above row).table
is_nearest above row h = rw h (ap (table_of row.id) (table_alone above row h))

-- no other row changes which it is
pub not_nearest : (above : Above) (row : Row) → is_table (html_tag row) ≡ false → above.table ≡ (under above row).table
not_nearest above row h = rw h refl
