-- A snapshot that is read straight from its tokens: what they begin with, and what is left of them. A page nests
-- 127 deep at the most, so its members 126, its rows 125, their members 124 and the pairs of attributes 123.
use Rattle.std.specs.Prelude.{◌≡◌, ℕ, ◌<◌, List, ◌∷◌, length, Bool, true, codes, Option, Some, None, option_map, option_and_then, Ok, ⊤}
use Rattle.json.specs.Token.{Token}
use Rattle.json.specs.Json.{value, items, members}
use Rattle.serde_json.specs.Data.{Data, Items, Members as Object, no_members, put}
use Rattle.serde_json.specs.Find.{get_member, as_array}
use Rattle.serde_json.specs.Read.{of_json, of_items, of_members, converted}
use Rattle.snap_tree.specs.declared.row.Space.{Space}
use Rattle.snap_tree.specs.declared.row.Attr.{Attr}
use Rattle.snap_tree.specs.declared.row.Row.{Row}
use Rattle.snap_tree.specs.declared.row.Raw.{Raw}
use Rattle.snap_json.specs.declared.limits.Limits.{Limits}
use Rattle.snap_json.specs.declared.straight.Members.{Members}
use Rattle.snap_json.specs.declared.straight.PageMembers.{PageMembers}
use Rattle.snap_json.specs.Fields.{number_of, parent_of, text_of, name_of, space_of, attr, attrs, attrs_of, facts_of}
use Rattle.snap_json.specs.Pages.{row_of, rows_of, page_of}

-- a value, nested so deep at the most
abbrev pub Reads : ℕ → List Token → Data → List Token → Type 0
Reads depth old d new = (converted of_json (value depth old) ≡ Some (d, new)) × (length new < length old)

-- some value
abbrev pub ReadsAny : ℕ → List Token → List Token → Type 0
ReadsAny depth old new = (d : Data) × Reads depth old d new

-- a token that is a value, if it is told to be one
abbrev pub IsPlain : Bool → Token → Type 0
IsPlain told t = told ≡ true → (depth : ℕ) (left : List Token) → ReadsAny depth (t ∷ left) left

-- items or members, and the bracket that ends them
abbrev pub ReadsItems : ℕ → List Token → Items → List Token → Type 0
ReadsItems depth old ds new = (converted of_items (items (value depth) (length old) old) ≡ Some (ds, new)) × (length new < length old)

abbrev pub ReadsAnyItems : ℕ → List Token → List Token → Type 0
ReadsAnyItems depth old new = (ds : Items) × ReadsItems depth old ds new

abbrev pub ReadsMembers : ℕ → List Token → Object → List Token → Type 0
ReadsMembers depth old ms new =
    (converted (λ found. of_members found no_members) (members (value depth) (length old) old) ≡ Some (ms, new)) × (length new < length old)

-- a member of a row, by what it means
abbrev pub Takes : {A : Type 0} → (Option Data → Option A) → List Token → A → List Token → Type 0
Takes meaning old x new = (d : Data) × Reads 124 old d new × (meaning (Some d) ≡ Some x)

abbrev pub TakesPair : List Token → Attr → List Token → Type 0
TakesPair old a new = (d : Data) × Reads 123 old d new × (attr d ≡ Some a)

abbrev pub TakesPairs : List Token → List Attr → List Token → Type 0
TakesPairs old found new = (ds : Items) × ReadsItems 123 old ds new × (attrs ds ≡ Some found)

-- a member that was found, by what it means, or that is absent
abbrev pub Found : {A : Type 0} → (Option Data → Option A) → Option A → Option Data → Type 0
Found meaning None member = member ≡ None
Found meaning (Some x) member = (d : Data) × (member ≡ Some d) × (meaning (Some d) ≡ Some x)

-- what was found of a row's members is what they mean: of those of which its body is made, and of all
pub record HoldsBody (space : Space) (tag : Option (List ℕ)) (attrs : List Attr) (text : Option (List ℕ)) (ms : Object) : Type 0 where
  pub space_is : space_of (get_member (codes "ns") ms) ≡ Some space
  pub tag_is : Found name_of tag (get_member (codes "tag") ms)
  pub attrs_are : attrs_of (get_member (codes "attrs") ms) ≡ Some attrs
  pub text_is : Found text_of text (get_member (codes "text") ms)

pub record Holds (found : Members) (ms : Object) : Type 0 where
  pub id_is : Found number_of found.id (get_member (codes "n") ms)
  pub parent_is : Found parent_of found.parent (get_member (codes "p") ms)
  pub body : HoldsBody found.space found.tag found.attrs found.text ms
  pub facts_are : facts_of (get_member (codes "f") ms) ≡ Some found.facts

-- the value of one more member
abbrev pub Adds : List ℕ → List Token → Members → List Token → Members → Type 0
Adds key old before new after = (d : Data) × Reads 124 old d new × ((ms : Object) → Holds before ms → Holds after (put key d ms))

abbrev pub TakesMembers : List Token → Members → List Token → Type 0
TakesMembers old found new = (ms : Object) × ReadsMembers 124 old ms new × Holds found ms

-- a row, wherever it stands in its list
abbrev pub TakesRow : List Token → Row → List Token → Type 0
TakesRow old row new = (d : Data) × Reads 125 old d new × ((place : ℕ) → row_of place d ≡ Ok row)

abbrev pub TakesRows : List Token → List Row → List Token → Type 0
TakesRows old rows new = (ds : Items) × ReadsItems 125 old ds new × (rows_of 1 ds ≡ Ok rows)

-- the rows that were found, if any
abbrev pub FoundRows : Option (List Row) → Option Data → Type 0
FoundRows None nodes = ⊤
FoundRows (Some rows) nodes = (ds : Items) × (option_and_then as_array nodes ≡ Some ds) × (rows_of 1 ds ≡ Ok rows)

-- what was found of a page's members is what they mean
pub record HoldsPage (found : PageMembers) (ms : Object) : Type 0 where
  pub url_is : text_of (get_member (codes "url") ms) ≡ option_map (λ url. url.now) found.url
  pub rows_are : FoundRows found.rows (get_member (codes "nodes") ms)

abbrev pub AddsToPage : List ℕ → List Token → PageMembers → List Token → PageMembers → Type 0
AddsToPage key old before new after = (d : Data) × Reads 126 old d new × ((ms : Object) → HoldsPage before ms → HoldsPage after (put key d ms))

abbrev pub TakesPageMembers : List Token → PageMembers → List Token → Type 0
TakesPageMembers old found new = (ms : Object) × ReadsMembers 126 old ms new × HoldsPage found ms

abbrev pub TakesPage : Limits → List Token → Raw → List Token → Type 0
TakesPage limits old raw new = (d : Data) × Reads 127 old d new × (page_of limits d ≡ Ok raw)
