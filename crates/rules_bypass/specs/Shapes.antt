-- What a row tells at a glance, which rules most nodes out: the length of its tag with the first letter, and whether it has an attribute.
use Rattle.std.specs.Prelude.{◌&&◌, ◌||◌, ◌==◌, ℕ, List, [], ◌∷◌, length, Bool, false}
use Rattle.std.specs.Char.{to_ascii_lowercase}
use Rattle.std.specs.Option.{option_map_or}
use Rattle.snap_tree.specs.declared.row.Row.{Row}
use Rattle.aria_tables.specs.declared.attr.AriaAttr.TheVariants as aria
use Rattle.acc_tree.specs.declared.attributes.Attribute.TheVariants as attribute
use Rattle.acc_tree.specs.Seen.{has}
use Rattle.acc_tree.specs.Tags.{html_tag, tag_in}
use Rattle.rules_bypass.specs.declared.bypass.Bypass.{Bypass}
use Rattle.rules_bypass.specs.declared.bypass.Bypass.TheVariants as bypass
use Rattle.rules_bypass.specs.Bypass.{is_summary}

-- the first byte in lower case; 0 where there is none
abbrev pub initial : List ℕ → ℕ
initial [] = 0
initial (b ∷ rest) = to_ascii_lowercase b

-- the length and the first letter of h1 to h6
abbrev pub heading_shape : ℕ → ℕ → Bool
heading_shape len letter = len == 2 && letter == 104

-- those of aside, footer and form, header, main, nav, search and section
abbrev pub landmark_shape : ℕ → ℕ → Bool
landmark_shape len letter =
    (letter == 97 && len == 5) || (letter == 102 && (len == 4 || len == 6)) || (letter == 104 && len == 6)
    || (letter == 109 && len == 4) || (letter == 110 && len == 3) || (letter == 115 && (len == 6 || len == 7))

-- an element whose tag has such a length and first letter, or one that names a role
abbrev pub has_shape : (ℕ → ℕ → Bool) → Row → Bool
has_shape shape row =
    option_map_or (λ tag. shape (length tag) (initial tag)) (tag_in row.body) false || has attribute.RoleAttr row

-- the node isn't ruled out at a glance
abbrev pub seems : Bypass → Row → Bool
seems bypass.Heading row = has_shape heading_shape row
seems bypass.Landmark row = has_shape landmark_shape row
seems bypass.SkipLink row = row.facts.tabbable
seems bypass.Collapse row = row.facts.tabbable && (has (attribute.Aria aria.Expanded) row || is_summary (html_tag row))
