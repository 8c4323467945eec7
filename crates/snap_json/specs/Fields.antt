-- What the members of a row mean. Each is a function from the member, which may be absent, to its
-- meaning, and gives none where the member is out of shape.
use Rattle.std.specs.Prelude.{ℕ, ◌^◌, List, [], ◌∷◌, codes, bytes_eq, nat_lt, nat_le, count_by, ◌==◌, Bool, ◌&&◌, if◌then◌else◌, Option, Some, None, option_map, option_and_then}
use Rattle.std.specs.List.{list_all, list_any}
use Rattle.std.specs.Str.{byte}
use Rattle.serde_json.specs.Data.{Data, null, number, string, array, unsigned, Items, no_items, item}
use Rattle.snap_tree.specs.declared.row.NodeId.{NodeId}
use Rattle.snap_tree.specs.declared.row.Space.{Space}
use Rattle.snap_tree.specs.declared.row.Space.TheVariants.{Html, Svg, Other}
use Rattle.snap_tree.specs.declared.row.Facts.{Facts}
use Rattle.snap_tree.specs.declared.row.Attr.{Attr}

-- a whole number from 1 to 4,294,967,295; a number with a fraction or an exponent is none
abbrev pub whole : Data → Option NodeId
whole (number (unsigned n)) = if nat_lt 0 n && nat_lt n (2 ^ 32) then Some (record { 0 = n }) else None
whole _ = None

abbrev pub number_of : Option Data → Option NodeId
number_of member = option_and_then whole member

-- null, for no parent, or a number
abbrev pub null_or_number : Data → Option (Option NodeId)
null_or_number null = Some None
null_or_number d = option_map Some (whole d)

abbrev pub parent_of : Option Data → Option (Option NodeId)
parent_of member = option_and_then null_or_number member

-- a text
abbrev pub text : Data → Option (List ℕ)
text (string s) = Some s
text _ = None

abbrev pub text_of : Option Data → Option (List ℕ)
text_of member = option_and_then text member

-- a text with a character
abbrev pub nonempty : List ℕ → Option (List ℕ)
nonempty [] = None
nonempty (b ∷ bytes) = Some (b ∷ bytes)

abbrev pub name_of : Option Data → Option (List ℕ)
name_of member = option_and_then nonempty (text_of member)

-- html, svg or other; absent means html
abbrev pub space_named : List ℕ → Option Space
space_named name = if bytes_eq name (codes "html") then Some Html else (if bytes_eq name (codes "svg") then Some Svg else (if bytes_eq name (codes "other") then Some Other else None))

abbrev pub space_of : Option Data → Option Space
space_of None = Some Html
space_of (Some d) = option_and_then space_named (text d)

-- a pair of texts, the name not empty
abbrev pub attr : Data → Option Attr
attr (array (item name (item value no_items))) =
    option_and_then (λ n. option_map (λ v. record { name = n; value = v }) (text value)) (name_of (Some name))
attr _ = None

-- a list of pairs; absent means none
abbrev pub attrs : Items → Option (List Attr)
attrs no_items = Some []
attrs (item d ds) = option_and_then (λ a. option_map (λ others. a ∷ others) (attrs ds)) (attr d)

abbrev pub attrs_of : Option Data → Option (List Attr)
attrs_of None = Some []
attrs_of (Some (array ds)) = attrs ds
attrs_of (Some _) = None

-- how often a letter occurs
abbrev pub times : ℕ → List ℕ → ℕ
times letter letters = count_by (λ c. c == letter) letters

-- the letters of facts: rendered, visible, focusable, tabbable
abbrev pub known : ℕ → Bool
known c = list_any (λ letter. c == letter) (codes "rvft")

-- known letters, each at most once, in any order
abbrev pub facts_named : List ℕ → Option Facts
facts_named letters =
    if list_all known letters && list_all (λ letter. nat_le (times letter letters) 1) (codes "rvft")
    then Some (record {
      rendered = times (byte "r") letters == 1;
      visible = times (byte "v") letters == 1;
      focusable = times (byte "f") letters == 1;
      tabbable = times (byte "t") letters == 1;
    })
    else None

-- letters; absent means rendered and visible
abbrev pub facts_of : Option Data → Option Facts
facts_of None = facts_named (codes "rv")
facts_of (Some d) = option_and_then facts_named (text d)
