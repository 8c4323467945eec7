-- Rows and pages, by what their members mean.
use Rattle.std.proofs.Common.{◌≡◌, ℕ, List, [], ◌∷◌, length, Option, Some, None, Ok, refl, sym, ap, ◌∙◌, subst, arith}
use Rattle.std.specs.Prelude.{codes, IsUtf8, ⊤, option_map, option_and_then}
use Rattle.json.specs.Token.{Token}
use Rattle.json.specs.Lex.{tokens}
use Rattle.json.specs.Json.{value}
use Rattle.serde_json.specs.Data.{Data, Items, item, array, object, Members as Object}
use Rattle.serde_json.specs.Find.{get_member, as_array}
use Rattle.serde_json.specs.Read.{of_json, converted}
use Rattle.snap_tree.specs.declared.row.NodeId.{NodeId}
use Rattle.snap_tree.specs.declared.row.Space.{Space}
use Rattle.snap_tree.specs.declared.row.Facts.{Facts}
use Rattle.snap_tree.specs.declared.row.Attr.{Attr}
use Rattle.snap_tree.specs.declared.row.Body.{Body}
use Rattle.snap_tree.specs.declared.row.Body.TheVariants.{Element, Words}
use Rattle.snap_tree.specs.declared.row.Row.{Row}
use Rattle.snap_tree.specs.declared.row.Raw.{Raw}
use Rattle.snap_json.specs.declared.limits.Limits.{Limits}
use Rattle.snap_json.specs.declared.straight.Members.{Members}
use Rattle.snap_json.specs.declared.straight.PageMembers.{PageMembers}
use Rattle.snap_json.specs.Fields.{number_of, parent_of, text_of, attr, attrs, attrs_of, facts_of}
use Rattle.snap_json.specs.Pages.{body_of, row_of, next_place, rows_of, address_from, page_of, in_json, json_of, page_by_value}
use Rattle.snap_json.specs.Straight.{Reads, ReadsAny, ReadsAnyItems, Takes, TakesPairs, Found, HoldsBody, Holds, TakesMembers, TakesRow, TakesRows, FoundRows, TakesPageMembers, TakesPage}
use Rattle.snap_json.specs.Faults.{◌>>=◌}
use Rattle.snap_json.proofs.Json.{is_json}
use Rattle.snap_json.proofs.Turns.{array_read, object_read, whole_read}

-- ---- lists of items, from their ends

-- what a list of attributes is, and what rows are, wherever they stand
abbrev pub AreAttrs : Items → List Attr → Type 0
AreAttrs ds found = attrs ds ≡ Some found

abbrev pub AreRows : Items → List Row → Type 0
AreRows ds rows = (place : ℕ) → rows_of place ds ≡ Ok rows

-- items of which nothing is said
abbrev pub Any : Items → List ℕ → Type 0
Any ds some = ⊤

pub items_read : (all ts new : List Token) → all ≡ Token.begin_array ∷ ts → ReadsAnyItems 123 ts new → ReadsAny 124 all new
items_read all ts new e t =
    (array t.0, (ap (λ x. converted of_json (value 124 x)) e ∙ array_read 124 ts new t.0 (omega arith) t.1.0, omega (arith, ap length e, t.1.1)))

pub one_attr : (d : Data) (a : Attr) → attr d ≡ Some a → (rest : Items) (more : List Attr) → AreAttrs rest more → AreAttrs (item d rest) (a ∷ more)
one_attr d a is rest more are = rw (is, are) refl

pub one_row : (d : Data) (row : Row) → ((place : ℕ) → row_of place d ≡ Ok row) → (rest : Items) (more : List Row) → AreRows rest more → AreRows (item d rest) (row ∷ more)
one_row d row is rest more are place = rw (is place, are (next_place place)) refl

pub attrs_takes : (all ts new : List Token) (found : List Attr) → all ≡ Token.begin_array ∷ ts → TakesPairs ts found new → Takes attrs_of all found new
attrs_takes all ts new found e t = (
  array t.0,
  (ap (λ x. converted of_json (value 124 x)) e ∙ array_read 124 ts new t.0 (omega arith) t.1.0, omega (arith, ap length e, t.1.1)),
  t.2,
)

-- ---- rows

pub element_made : (space : Space) (tag : List ℕ) (all : List Attr) (ms : Object) → HoldsBody space (Some tag) all None ms → (place : ℕ) → body_of place (object ms) ≡ Ok (Element space tag all)
unfolding body_of
element_made space tag all ms h place = rw (h.tag_is.1, h.text_is, h.tag_is.2, h.space_is, h.attrs_are) refl

pub words_made : (space : Space) (all : List Attr) (text : List ℕ) (ms : Object) → HoldsBody space None all (Some text) ms → (place : ℕ) → body_of place (object ms) ≡ Ok (Words text)
unfolding body_of
words_made space all text ms h place = rw (h.tag_is, h.text_is.1, h.text_is.2) refl

means : {A : Type 0} (meaning : Option Data → Option A) (x : A) (member : Option Data) → Found meaning (Some x) member → meaning member ≡ Some x
means meaning x member h = ap meaning h.1 ∙ h.2

pub row_made : (id : NodeId) (parent : Option NodeId) (body : Body) (facts : Facts) (ms : Object)
    → Found number_of (Some id) (get_member (codes "n") ms) → Found parent_of (Some parent) (get_member (codes "p") ms) → facts_of (get_member (codes "f") ms) ≡ Some facts
    → ((place : ℕ) → body_of place (object ms) ≡ Ok body) → (place : ℕ) → row_of place (object ms) ≡ Ok (record { id = id; parent = parent; body = body; facts = facts })
unfolding row_of
row_made id parent body facts ms n p f is place =
    rw (means number_of id (get_member (codes "n") ms) n, means parent_of parent (get_member (codes "p") ms) p, is place, f) refl

pub row_takes : (all ts new : List Token) (found : Members) (row : Row) → all ≡ Token.begin_object ∷ ts → TakesMembers ts found new
    → ((ms : Object) → Holds found ms → (place : ℕ) → row_of place (object ms) ≡ Ok row) → TakesRow all row new
row_takes all ts new found row e t makes = (
  object t.0,
  (ap (λ x. converted of_json (value 125 x)) e ∙ object_read 125 ts new t.0 (omega arith) t.1.0, omega (arith, ap length e, t.1.1)),
  makes t.0 t.2,
)

-- ---- the page

pub rows_read : (all ts new : List Token) (rows : List Row) → all ≡ Token.begin_array ∷ ts → (t : TakesRows ts rows new) → Reads 126 all (array t.0) new
rows_read all ts new rows e t =
    (ap (λ x. converted of_json (value 126 x)) e ∙ array_read 126 ts new t.0 (omega arith) t.1.0, omega (arith, ap length e, t.1.1))

page_made : (limits : Limits) (ms : Object) (text address : List ℕ) (ds : Items) (rows : List Row) → text_of (get_member (codes "url") ms) ≡ Some text
    → option_and_then as_array (get_member (codes "nodes") ms) ≡ Some ds → rows_of 1 ds ≡ Ok rows → address_from limits.address text ≡ Ok address
    → page_of limits (object ms) ≡ Ok (record { address = address; rows = rows })
unfolding page_of
page_made limits ms text address ds rows url nodes are web = rw (url, nodes, web, are) refl

pub page_takes : (limits : Limits) (all ts new : List Token) (found : PageMembers) (text address : List ℕ) (rows : List Row) → all ≡ Token.begin_object ∷ ts → TakesPageMembers ts found new
    → option_map (λ url. url.now) found.url ≡ Some text → found.rows ≡ Some rows → address_from limits.address text ≡ Ok address
    → TakesPage limits all (record { address = address; rows = rows }) new
page_takes limits all ts new found text address rows e t url has web =
    let ms = t.0 in
    let nodes = subst (λ o. FoundRows o (get_member (codes "nodes") ms)) has t.2.rows_are in (
      object ms,
      (ap (λ x. converted of_json (value 127 x)) e ∙ object_read 127 ts new ms (omega arith) t.1.0, omega (arith, ap length e, t.1.1)),
      page_made limits ms text address nodes.0 rows (t.2.url_is ∙ url) nodes.1 nodes.2 web,
    )

-- the page that a whole text is
pub page_read : (limits : Limits) (bytes text : List ℕ) (all left : List Token) (raw : Raw) → text ≡ bytes → IsUtf8 bytes → all ≡ tokens text → TakesPage limits all raw left → left ≡ []
    → page_by_value limits bytes ≡ Ok raw
page_read limits bytes text all left raw same utf8 are t none =
    let d = t.0 in
    let read : converted of_json (value 127 (tokens bytes)) ≡ Some (d, []) =
    ap (λ ts. converted of_json (value 127 ts)) (sym (are ∙ ap tokens same)) ∙ t.1.0 ∙ ap (λ r. Some (d, r)) none in
    let json : json_of bytes ≡ Some d = is_json bytes d utf8 (whole_read (value 127 (tokens bytes)) d read) in
    ap (λ o. in_json o >>= page_of limits) json ∙ t.2
