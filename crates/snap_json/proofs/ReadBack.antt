-- What is written of a page is read back.
use Rattle.std.proofs.Common.{◌≡◌, ℕ, ◌<◌, ◌^◌, List, [], ◌∷◌, length, map, Bool, true, false, cond, ◌&&◌, ltb, Option, Some, None, Ok, refl, ap, arith}
use Rattle.std.specs.Prelude.{IfSome, option_map, option_and_then}
use Rattle.std.specs.List.{AllByRecursion}
use Rattle.std.proofs.lemmas.Bool.Decides.{nat_tests}
use Rattle.serde_json.specs.View.{items_of}
use Rattle.snap_tree.specs.declared.row.NodeId.{NodeId}
use Rattle.snap_tree.specs.declared.row.Space.{Space}
use Rattle.snap_tree.specs.declared.row.Space.TheVariants.{Html, Svg, Other}
use Rattle.snap_tree.specs.declared.row.Facts.{Facts}
use Rattle.snap_tree.specs.declared.row.Attr.{Attr}
use Rattle.snap_tree.specs.declared.row.Body.{Body}
use Rattle.snap_tree.specs.declared.row.Body.TheVariants.{Element, Words}
use Rattle.snap_tree.specs.declared.row.Row.{Row}
use Rattle.snap_json.specs.declared.limits.Limits.{Limits}
use Rattle.web_address.specs.Address.{address_of}
use Rattle.snap_json.specs.Fields.{whole, null_or_number, nonempty, space_named, attr, attrs, facts_named}
use Rattle.snap_json.specs.Pages.{within, next_place, body_of, row_of, rows_of, page_of}
use Rattle.snap_json.specs.Written.{letters, space_name, number_data, parent_data, attr_data, row_data, page_data}

-- a number that a row may have
pub record IsNumber (n : NodeId) : Type 0 where
  pub above : 0 < n.0
  pub fits : n.0 < 2 ^ 32

abbrev pub IsNamed : Attr → Type 0
IsNamed a = 0 < length a.name

-- the tag and the names of the attributes aren't empty
abbrev pub IsNamedBody : Body → Type 0
IsNamedBody (Element space tag attrs) = (0 < length tag) × AllByRecursion IsNamed attrs
IsNamedBody (Words text) = Unit {0}

-- a row that can be read
pub record IsReadable (row : Row) : Type 0 where
  pub number : IsNumber row.id
  pub parent : IfSome row.parent IsNumber
  pub body : IsNamedBody row.body

number_back : (n : NodeId) → IsNumber n → whole (number_data n) ≡ Some n
number_back n h =
    let above = h.above in
    let fits = h.fits in
    let both : ltb 0 n.0 && ltb n.0 (2 ^ 32) ≡ true = grind (arith, nat_tests) in
    ap (λ b. cond b (Some n) None) both

parent_back : (p : Option NodeId) → IfSome p IsNumber → null_or_number (parent_data p) ≡ Some p
parent_back None h = refl
parent_back (Some p) h = ap (option_map Some) (number_back p h)

facts_by : (a b c d : Bool) → let f : Facts = record { rendered = a; visible = b; focusable = c; tabbable = d } in facts_named (letters f) ≡ Some f
facts_by true true true true = refl
facts_by true true true false = refl
facts_by true true false true = refl
facts_by true true false false = refl
facts_by true false true true = refl
facts_by true false true false = refl
facts_by true false false true = refl
facts_by true false false false = refl
facts_by false true true true = refl
facts_by false true true false = refl
facts_by false true false true = refl
facts_by false true false false = refl
facts_by false false true true = refl
facts_by false false true false = refl
facts_by false false false true = refl
facts_by false false false false = refl

facts_back : (f : Facts) → facts_named (letters f) ≡ Some f
facts_back f = facts_by f.rendered f.visible f.focusable f.tabbable

space_back : (s : Space) → space_named (space_name s) ≡ Some s
space_back Html = refl
space_back Svg = refl
space_back Other = refl

name_back : (name : List ℕ) → 0 < length name → nonempty name ≡ Some name
name_back [] h = absurd (omega arith)
name_back (b ∷ bytes) h = refl

attr_back : (a : Attr) → IsNamed a → attr (attr_data a) ≡ Some a
attr_back a h = ap (option_and_then (λ n. Some (record { name = n; value = a.value }))) (name_back a.name h)

attrs_back : (all : List Attr) → AllByRecursion IsNamed all → attrs (items_of (map attr_data all)) ≡ Some all
attrs_back [] h = refl
attrs_back (a ∷ others) h = rw (attr_back a h.0, attrs_back others h.1) refl

row_by : (place : ℕ) (id : NodeId) (parent : Option NodeId) (body : Body) (facts : Facts) → IsNumber id → IfSome parent IsNumber → IsNamedBody body
    → let row : Row = record { id = id; parent = parent; body = body; facts = facts } in row_of place (row_data row) ≡ Ok row
unfolding row_of row_data body_of
row_by place id parent (Element space tag all) facts ranged above named =
    rw (number_back id ranged, parent_back parent above, name_back tag named.0, space_back space, attrs_back all named.1, facts_back facts) refl
row_by place id parent (Words text) facts ranged above named =
    rw (number_back id ranged, parent_back parent above, facts_back facts) refl

row_back : (place : ℕ) (row : Row) → IsReadable row → row_of place (row_data row) ≡ Ok row
row_back place row h = row_by place row.id row.parent row.body row.facts h.number h.parent h.body

rows_back : (place : ℕ) (rows : List Row) → AllByRecursion IsReadable rows → rows_of place (items_of (map row_data rows)) ≡ Ok rows
rows_back place [] h = refl
rows_back place (row ∷ rows) h = rw (row_back place row h.0, rows_back (next_place place) rows h.1) refl

-- A page whose address is a web address within the limit, and whose rows can be read.
pub page_back : (limits : Limits) (address : List ℕ) (rows : List Row) → address_of address ≡ Some address → within limits.address (length address) ≡ true → AllByRecursion IsReadable rows
    → page_of limits (page_data address rows) ≡ Ok (record { address = address; rows = rows })
unfolding page_of page_data
page_back limits address rows web short readable = rw (short, web, rows_back 1 rows readable) refl
