-- Whether two pages agree on a key, as a test.
use Rattle.std.specs.Prelude.{◌&&◌, ◌==◌, List, Bool}
use Rattle.std.specs.Bool.{beq, Decides}
use Rattle.std.specs.Cmp.Lexicographic.{pointwise}
use Rattle.std.specs.List.{list_all}
use Rattle.std.specs.Option.{option_eq}
use Rattle.std.specs.Str.{bytes_eq}
use denote.Enum.Bare.{sameb}
use Rattle.aria_tables.specs.contracts.role.Role as role
use Rattle.snap_tree.specs.contracts.row.Space as space
use Rattle.snap_tree.specs.declared.row.NodeId.{NodeId}
use Rattle.snap_tree.specs.declared.row.Attr.{Attr}
use Rattle.snap_tree.specs.declared.row.Facts.{Facts}
use Rattle.snap_tree.specs.Labels.{first_with_id, labels_naming}
use Rattle.snap_tree.specs.Lookups.{tagged}
use Rattle.snap_tree.specs.Trees.{Trees}
use Rattle.acc_tree.specs.Frames.{Frame}
use Rattle.page_keys.specs.Keys.{Key, frame_key, own_key, kids_key, id_key, label_key, tagged_key, Own, frame_at, own_at, kids_at, Agree}

abbrev pub same_node : NodeId → NodeId → Bool
same_node a b = a.0 == b.0

abbrev pub same_attr : Attr → Attr → Bool
same_attr a b = bytes_eq a.name b.name && bytes_eq a.value b.value

abbrev pub same_facts : Facts → Facts → Bool
same_facts a b =
    beq a.rendered b.rendered && (beq a.visible b.visible && (beq a.focusable b.focusable && beq a.tabbable b.tabbable))

-- by its row alone: the parent, the name space and the tag
abbrev pub same_shape : Frame → Frame → Bool
same_shape a b =
    option_eq same_node a.parent b.parent && (option_eq (sameb space.the_type) a.space b.space && option_eq bytes_eq a.tag b.tag)

-- aria-hidden, lang and disabled
abbrev pub same_marks : Frame → Frame → Bool
same_marks a b =
    option_eq bytes_eq a.hidden b.hidden && (option_eq bytes_eq a.lang b.lang && option_eq bytes_eq a.disabled b.disabled)

abbrev pub same_frame : Frame → Frame → Bool
same_frame a b = same_shape a b && (same_marks a b && option_eq (sameb role.the_type) a.role b.role)

abbrev pub same_own : Own → Own → Bool
same_own a b = pointwise same_attr a.attrs b.attrs && (same_facts a.facts b.facts && option_eq bytes_eq a.text b.text)

-- the key has one value on both pages
unfoldable pub same : Trees → Trees → Key → Bool
same old new (frame_key n) = option_eq same_frame (frame_at old n) (frame_at new n)
same old new (own_key n) = option_eq same_own (own_at old n) (own_at new n)
same old new (kids_key n) = option_eq (pointwise same_node) (kids_at old n) (kids_at new n)
same old new (id_key id) = option_eq same_node (first_with_id old id) (first_with_id new id)
same old new (label_key id) = pointwise same_node (labels_naming old id) (labels_naming new id)
same old new (tagged_key tag) = pointwise same_node (tagged old tag) (tagged new tag)

-- all of these keys have
abbrev pub all_same : Trees → Trees → List Key → Bool
all_same old new keys = list_all (same old new) keys

-- the test tells whether the pages agree
abbrev pub TellsSame : Trees → Trees → Key → Type 0
TellsSame old new key = Decides (same old new key) (Agree old new key)
