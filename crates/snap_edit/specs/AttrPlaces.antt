-- Where an attribute stands.
use Rattle.std.specs.Prelude.{ℕ, ◌+◌, List, [], ◌∷◌, if◌then◌else◌, Option, Some, None}
use Rattle.snap_tree.specs.declared.row.Attr.{Attr}
use Rattle.texts.specs.Words.{same_folded}

-- the place of the first attribute of this name, counted from `from`
abbrev pub attr_place : ℕ → List ℕ → List Attr → Option ℕ
attr_place from name [] = None
attr_place from name (a ∷ attrs) = if same_folded a.name name then Some from else attr_place (from + 1) name attrs
