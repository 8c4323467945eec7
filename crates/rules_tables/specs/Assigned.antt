-- Which cells a header is assigned to (HTML, "forming relationships between data cells and header cells").
use Rattle.std.specs.Prelude.{◌&&◌, ◌||◌, not, nat_le, nat_lt, List, [], ◌∷◌, filter, codes, Bool, true, false, if◌then◌else◌, Option, Some, None}
use Rattle.std.specs.List.{list_any}
use Rattle.std.specs.Option.{option_or}
use Rattle.std.specs.Str.{bytes_eq}
use Rattle.aria_tables.specs.declared.role.Role.{Role}
use Rattle.aria_tables.specs.declared.role.Role.TheVariants as role
use Rattle.snap_tree.specs.declared.row.NodeId.{NodeId}
use Rattle.snap_tree.specs.declared.row.Row.{Row}
use Rattle.snap_tree.specs.Rows.{has_number}
use Rattle.texts.specs.Words.{words}
use Rattle.acc_tree.specs.declared.above.Above.{Above}
use Rattle.acc_tree.specs.declared.attributes.Attribute.TheVariants as attribute
use Rattle.acc_tree.specs.Roles.{explicit, role_at, heads_rows}
use Rattle.acc_tree.specs.Seen.{text_at, is_blank_at, is_word_at}
use Rattle.rules_tables.specs.declared.grid.Area.{Area}
use Rattle.rules_tables.specs.declared.assigned.Direction.{Direction}
use Rattle.rules_tables.specs.declared.assigned.Direction.TheVariants.{Down, Right, Either}
use Rattle.rules_tables.specs.Grid.{Placed}

-- ---- by the grid

abbrev pub heads_columns : Row → Bool
heads_columns row = is_word_at attribute.Scope (codes "col") row || is_word_at attribute.Scope (codes "colgroup") row

abbrev pub by_scope : Row → Direction
by_scope row = if heads_columns row then Down else (if heads_rows row then Right else Either)

abbrev pub by_role : Row → Option Role → Direction
by_role row (Some role.Columnheader) = Down
by_role row (Some role.Rowheader) = Right
by_role row _ = by_scope row

-- where the cells of a header lie: as its explicit role says, else its scope
abbrev pub direction_of : Row → Direction
direction_of row = by_role row (explicit row)

abbrev pub goes_down : Direction → Bool
goes_down Down = true
goes_down Right = false
goes_down Either = true

abbrev pub goes_right : Direction → Bool
goes_right Down = false
goes_right Right = true
goes_right Either = true

-- they share a column, and the cell begins below the header's last row
abbrev pub is_below : Area → Area → Bool
is_below h c = (nat_lt h.left c.right && nat_lt c.left h.right) && nat_le h.bottom c.top

-- they share a row, and the cell begins right of the header's last column
abbrev pub is_right : Area → Area → Bool
is_right h c = (nat_lt h.top c.bottom && nat_lt c.top h.bottom) && nat_le h.right c.left

-- a header that is no cell of the table's rows shares no column and no row with any cell
abbrev pub is_led_to : Direction → Option Area → Area → Bool
is_led_to d None c = false
is_led_to d (Some h) c = (goes_down d && is_below h c) || (goes_right d && is_right h c)

-- ---- by `headers`

-- the header's id isn't blank and is one of the words of the cell's `headers`
abbrev pub is_named : Row → Row → Bool
is_named header cell =
    not (is_blank_at attribute.Id header) && list_any (bytes_eq (text_at attribute.Id header)) (words (text_at attribute.Headers cell))

-- ---- together

abbrev pub is_data_role : Option Role → Bool
is_data_role (Some role.Cell) = true
is_data_role (Some role.Gridcell) = true
is_data_role _ = false

-- a cell that has `headers` is assigned by them alone
abbrev pub is_meant : Row → Direction → Option Area → Placed → Bool
is_meant header d place p =
    if is_blank_at attribute.Headers p.cell then is_led_to d place p.area else is_named header p.cell

-- the cell isn't the header itself, has the role cell or gridcell, and is meant by the header; what is above
-- the header says all that the role of a cell of its table depends on
abbrev pub is_assigned : Above → Row → Direction → Option Area → Placed → Bool
is_assigned above header d place p =
    not (has_number header.id p.cell) && (is_meant header d place p && is_data_role (role_at above p.cell))

-- the place of a number among cells, the last of which comes first
abbrev pub place_of : NodeId → List Placed → Option Area
place_of n [] = None
place_of n (p ∷ placed) = option_or (place_of n placed) (if has_number n p.cell then Some p.area else None)

-- the cells that are assigned to a header
abbrev pub assigned : Above → Row → List Placed → List Placed
assigned above header placed = filter (is_assigned above header (direction_of header) (place_of header.id placed)) placed
