-- What a node says of those below it, and what all those above a node say of it.
use Rattle.std.specs.Prelude.{◌&&◌, ◌||◌, ℕ, List, [], ◌∷◌, codes, Bool, true, false, if◌then◌else◌, Option, Some, None, option_and_then}
use Rattle.std.specs.Option.{is_some}
use Rattle.aria_tables.specs.declared.attr.AriaAttr.TheVariants as aria
use Rattle.aria_tables.specs.declared.role.Role.{Role}
use Rattle.snap_tree.specs.declared.row.NodeId.{NodeId}
use Rattle.snap_tree.specs.declared.row.Space.{Space}
use Rattle.snap_tree.specs.declared.row.Row.{Row}
use Rattle.acc_tree.specs.declared.above.Above.{Above}
use Rattle.acc_tree.specs.declared.above.TableAbove.{TableAbove}
use Rattle.acc_tree.specs.declared.attributes.Attribute.TheVariants as attribute
use Rattle.acc_tree.specs.declared.tags.Tag.{Tag}
use Rattle.acc_tree.specs.declared.tags.Tag.TheVariants as tag
use Rattle.acc_tree.specs.Tags.{known_tag, space_in, tag_in, in_html}
use Rattle.acc_tree.specs.Seen.{attr, is_keyword}
use Rattle.acc_tree.specs.Roles.{role_at, table_role}

-- all that a node says of those below it, and more that is asked of a node alone; tag and values as sent
pub record Frame : Type 0 where
  pub parent : Option NodeId
  pub space : Option Space
  pub tag : Option (List ℕ)
  pub role : Option Role
  pub hidden : Option (List ℕ)
  pub lang : Option (List ℕ)
  pub disabled : Option (List ℕ)

-- the frame of a row, given what is above it; its role is the computed one
abbrev pub frame : Above → Row → Frame
frame above row = record {
  parent = row.parent;
  space = space_in row.body;
  tag = tag_in row.body;
  role = role_at above row;
  hidden = attr (attribute.Aria aria.Hidden) row;
  lang = attr attribute.Lang row;
  disabled = attr attribute.Disabled row;
}

-- ---- tags

abbrev pub frame_any_tag : Frame → Option Tag
frame_any_tag f = option_and_then known_tag f.tag

abbrev pub frame_html_tag : Frame → Option Tag
frame_html_tag f = in_html f.space (frame_any_tag f)

-- a header or footer in such an element isn't the page's
abbrev pub is_sectioning : Option Tag → Bool
is_sectioning (Some tag.Article) = true
is_sectioning (Some tag.Aside) = true
is_sectioning (Some tag.Main) = true
is_sectioning (Some tag.Nav) = true
is_sectioning (Some tag.Section) = true
is_sectioning _ = false

abbrev pub holds_items : Option Tag → Bool
holds_items (Some tag.Ul) = true
holds_items (Some tag.Ol) = true
holds_items (Some tag.Menu) = true
holds_items _ = false

abbrev pub is_table : Option Tag → Bool
is_table (Some tag.Table) = true
is_table _ = false

abbrev pub is_label : Option Tag → Bool
is_label (Some tag.Label) = true
is_label _ = false

abbrev pub is_fieldset : Option Tag → Bool
is_fieldset (Some tag.Fieldset) = true
is_fieldset _ = false

-- ---- what is above

-- a `table` with its role
abbrev pub table_at : Row → TableAbove
table_at row = record { node = row.id; role = table_role row }

abbrev pub nothing_above : Above
nothing_above = record { in_section = false; in_list = false; table = None; label = None; hidden = false; disabled = false }

-- what is above the children of the node with this number and frame
abbrev pub beneath : Above → NodeId → Frame → Above
beneath above n f = record {
  in_section = above.in_section || is_sectioning (frame_any_tag f);
  in_list = holds_items (frame_html_tag f);
  table = if is_table (frame_html_tag f) then Some (record { node = n; role = f.role }) else above.table;
  label = if is_label (frame_html_tag f) then Some n else above.label;
  hidden = above.hidden || is_keyword (codes "true") f.hidden;
  disabled = above.disabled || (is_fieldset (frame_html_tag f) && is_some f.disabled);
}

-- what is above the children of a row
abbrev pub under : Above → Row → Above
under above row = beneath above row.id (frame above row)

-- what these ancestors say together, the nearest first
abbrev pub above_of : List Row → Above
above_of [] = nothing_above
above_of (row ∷ rows) = under (above_of rows) row
