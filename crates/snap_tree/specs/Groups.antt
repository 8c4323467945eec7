-- Rows grouped by a key.
use Rattle.std.specs.Prelude.{◌≡◌, ℕ, List, [], ◌∷◌, ◌++◌, if◌then◌else◌, filter, map, Option, Some, None, String, Vec}
use Rattle.std.specs.Option.{option_map_or}
use Rattle.std.specs.Str.{bytes_eq}
use Rattle.std.specs.BTreeMap.{BTreeMap, get_by_text}
use Rattle.std.specs.declared.alloc.Global.{Global}
use Rattle.snap_tree.specs.declared.row.NodeId.{NodeId}
use Rattle.snap_tree.specs.declared.row.Row.{Row}
use Rattle.snap_tree.specs.declared.row.Body.{Body}
use Rattle.snap_tree.specs.declared.row.Body.TheVariants.{Element, Words}
use Rattle.snap_tree.specs.declared.row.Space.TheVariants.{Html, Svg, Other}
use Rattle.snap_tree.specs.declared.groups.Key.{Key}
use Rattle.snap_tree.specs.declared.groups.Key.TheVariants.{Tag, Id, For}
use Rattle.texts.specs.Words.{folded}
use Rattle.snap_tree.specs.Rows.{is_key}
use Rattle.snap_tree.specs.Labels.{id_of, for_of}

abbrev pub tag_in : Body → Option (List ℕ)
tag_in (Element Html tag attrs) = Some (folded tag)
tag_in (Element Svg tag attrs) = None
tag_in (Element Other tag attrs) = None
tag_in (Words text) = None

abbrev pub key_of : Key → Row → Option (List ℕ)
key_of Tag r = tag_in r.body
key_of Id r = id_of r
key_of For r = for_of r

-- the numbers of the rows with this key, in order
abbrev pub keyed : Key → List ℕ → List Row → List NodeId
keyed key text rows = map (λ r. r.id) (filter (λ r. is_key text (key_of key r)) rows)

-- what a map has at a key
abbrev pub group_at : BTreeMap (String Global) (Vec NodeId Global) → List ℕ → List NodeId
group_at groups text = option_map_or (λ g. g.items) (get_by_text groups text) []

-- one more number stands at the end of the key's group, and the others stay
abbrev pub HasPut : BTreeMap (String Global) (Vec NodeId Global) → BTreeMap (String Global) (Vec NodeId Global) → List ℕ → NodeId → Type 0
HasPut old new key n = (text : List ℕ) → group_at new text ≡ (if bytes_eq text key then group_at old text ++ n ∷ [] else group_at old text)

-- the map has each group
abbrev pub AreGroups : Key → BTreeMap (String Global) (Vec NodeId Global) → List Row → Type 0
AreGroups key groups rows = (text : List ℕ) → group_at groups text ≡ keyed key text rows
