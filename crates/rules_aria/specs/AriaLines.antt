-- The lines that show an element's ARIA attributes.
use Rattle.std.specs.Prelude.{ℕ, List, ◌∷◌, ◌++◌, map}
use Rattle.std.specs.List.{join_with_byte}
use Rattle.snap_tree.specs.declared.row.Attr.{Attr}
use Rattle.snap_tree.specs.declared.row.Row.{Row}
use Rattle.acc_tree.specs.Seen.{aria_attrs}

-- an attribute's name and value as sent, with `=` between
abbrev pub line : Attr → List ℕ
line a = a.name ++ 61 ∷ a.value

-- a line for each attribute whose name begins `aria-`, in their order, with a line feed between
abbrev pub lines : List Attr → List ℕ
lines attrs = join_with_byte 10 (map line attrs)

abbrev pub aria_lines : Row → List ℕ
aria_lines row = lines (aria_attrs row)
