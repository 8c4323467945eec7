-- An element's attributes with one set, and with one taken out.
use Rattle.std.specs.Prelude.{ℕ, List, [], ◌∷◌, if◌then◌else◌, Option, Some, None}
use Rattle.snap_tree.specs.declared.row.Attr.{Attr}
use Rattle.snap_tree.specs.declared.row.Body.{Body}
use Rattle.snap_tree.specs.declared.row.Body.TheVariants.{Element, Words}
use Rattle.snap_tree.specs.declared.row.Facts.{Facts}
use Rattle.snap_tree.specs.declared.row.Row.{Row}
use Rattle.texts.specs.Words.{same_folded}

-- the first attribute of this name, compared folded, keeps its name and place and gets the value; where
-- there is none, a new one goes last
abbrev pub attrs_with : List ℕ → List ℕ → List Attr → List Attr
attrs_with name value [] = record { name = name; value = value } ∷ []
attrs_with name value (a ∷ attrs) =
    if same_folded a.name name then record { name = a.name; value = value } ∷ attrs
    else a ∷ attrs_with name value attrs

-- the first attribute of this name goes, and where there is none all stay
abbrev pub attrs_without : List ℕ → List Attr → List Attr
attrs_without name [] = []
attrs_without name (a ∷ attrs) = if same_folded a.name name then attrs else a ∷ attrs_without name attrs

-- with a value the attribute of this name is set, and without one it is taken out
abbrev pub attrs_after : List ℕ → Option (List ℕ) → List Attr → List Attr
attrs_after name None = attrs_without name
attrs_after name (Some value) = attrs_with name value

abbrev pub body_with : (List Attr → List Attr) → Body → Body
body_with f (Element space tag attrs) = Element space tag (f attrs)
body_with f (Words text) = Words text

-- the row with its attributes changed so
abbrev pub with_attrs : (List Attr → List Attr) → Row → Row
with_attrs f r = record { id = r.id; parent = r.parent; body = body_with f r.body; facts = r.facts }

abbrev pub with_text : List ℕ → Row → Row
with_text text r = record { id = r.id; parent = r.parent; body = Words text; facts = r.facts }

abbrev pub with_facts : Facts → Row → Row
with_facts facts r = record { id = r.id; parent = r.parent; body = r.body; facts = facts }
