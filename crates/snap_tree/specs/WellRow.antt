-- What holds of each row of a tree that is built: the limits on its number, attributes, texts and names.
use Rattle.std.specs.Prelude.{◌<◌, ◌≤◌, ℕ, List, length, map}
use Rattle.std.specs.List.{AllByRecursion, IsDistinct}
use Rattle.snap_tree.specs.declared.row.Attr.{Attr}
use Rattle.snap_tree.specs.declared.row.Body.{Body}
use Rattle.snap_tree.specs.declared.row.Body.TheVariants.{Element, Words}
use Rattle.snap_tree.specs.declared.row.Row.{Row}
use Rattle.texts.specs.Words.{same_folded}
use Rattle.snap_tree.specs.declared.limits.TheConstants.{MOST_ATTRS, MOST_BYTES}

-- the text isn't too long
abbrev pub IsShort : List ℕ → Type 0
IsShort text = length text ≤ MOST_BYTES

-- the name isn't empty, nor too long
pub record IsName (name : List ℕ) : Type 0 where
  pub filled : 0 < length name
  pub short : IsShort name

pub record IsWellAttr (a : Attr) : Type 0 where
  pub named : IsName a.name
  pub short : IsShort a.value

-- an element has a tag, and not too many attributes, no two of one name when folded
pub record IsWellElement (tag : List ℕ) (attrs : List Attr) : Type 0 where
  pub named : IsName tag
  pub few : length attrs ≤ MOST_ATTRS
  pub each_well : AllByRecursion IsWellAttr attrs
  pub differ : IsDistinct same_folded (map (λ a. a.name) attrs)

abbrev pub IsWellBody : Body → Type 0
IsWellBody (Element space tag attrs) = IsWellElement tag attrs
IsWellBody (Words text) = IsShort text

pub record IsWellRow (r : Row) : Type 0 where
  pub numbered : 0 < r.id.0
  pub body_well : IsWellBody r.body
