-- The tokens of a page are printed as its text, and read back as its value.
use Rattle.std.proofs.Common.{◌≡◌, ℕ, suc, ◌+◌, ◌<◌, ◌≤◌, ◌^◌, max, List, [], ◌∷◌, ◌++◌, length, map, drop, get_or, Option, Some, None, refl, sym, ap, ap₂, ◌∙◌, append_assoc, append-nil, arith}
use Rattle.std.specs.Prelude.{IfSome, IsUtf8, option_and_then}
use Rattle.std.specs.List.{AllByRecursion}
use Rattle.std.proofs.lemmas.List.{drop_more}
use Rattle.json.specs.Token.{Token}
use Rattle.json.specs.Lex.{tokens}
use Rattle.json.specs.Print.{print}
use Rattle.json.specs.Json as json
use Rattle.json.specs.Tree as tree
use Rattle.json.proofs.Printed.Trees.{value-json_tokens}
use Rattle.serde_json.specs.Data.{Data, null, boolean, number, string, array, object, Items, no_items, item, Members, no_members, member, depth, items_depth, members_depth}
use Rattle.serde_json.specs.Read.{of_json, of_items, max_depth}
use Rattle.serde_json.specs.View.{items_of}
use Rattle.serde_json.specs.Written.{outline, items_outline, members_outline, compact_text}
use Rattle.serde_json.proofs.Numbers.{number_of-decimal}
use Rattle.serde_json.proofs.Texts.{print-outline}
use Rattle.snap_tree.specs.declared.row.NodeId.{NodeId}
use Rattle.snap_tree.specs.declared.row.Attr.{Attr}
use Rattle.snap_tree.specs.declared.row.Body.{Body}
use Rattle.snap_tree.specs.declared.row.Body.TheVariants.{Element, Words}
use Rattle.snap_tree.specs.declared.row.Row.{Row}
use Rattle.snap_json.specs.Pages.{json_of}
use Rattle.snap_json.specs.Small.{IsSmall}
use Rattle.snap_json.specs.Tokens.{tokens_of, list_tokens}
use Rattle.snap_json.specs.Written.{number_data, parent_data, attr_data, members_data, row_data, page_data}
use Rattle.snap_json.proofs.Json.{is_json}
use Rattle.snap_json.proofs.WrittenData.{page_nests_few}

-- ---- a list, item by item

pub list_more : {X : Type 0} (f : X → Data) (xs : List X) (i : ℕ) (x : X) (before now whole : List Token) → i < length xs → x ≡ get_or xs i x
    → before ++ list_tokens f (drop i xs) ≡ whole → now ≡ before ++ tokens_of (f x) → now ++ list_tokens f (drop (i + 1) xs) ≡ whole
list_more f xs i x before now whole inside at so_far more =
    let rest = drop (i + 1) xs in
    let here : drop i xs ≡ x ∷ rest = drop_more xs i x inside ∙ ap (λ y. y ∷ rest) (sym at) in
    ap (λ l. l ++ list_tokens f rest) more ∙ append_assoc before (tokens_of (f x)) (list_tokens f rest)
    ∙ ap (λ l. before ++ list_tokens f l) (sym here) ∙ so_far

-- ---- the value of the tokens

mutual
  same_depth : (d : Data) → tree.depth (outline d) ≡ depth d
  same_depth null = refl
  same_depth (boolean b) = refl
  same_depth (number n) = refl
  same_depth (string s) = refl
  same_depth (array ds) = ap suc (same_items_depth ds)
  same_depth (object ms) = ap suc (same_members_depth ms)

  same_items_depth : (ds : Items) → tree.items_depth (items_outline ds) ≡ items_depth ds
  same_items_depth no_items = refl
  same_items_depth (item d ds) = ap₂ max (same_depth d) (same_items_depth ds)

  same_members_depth : (ms : Members) → tree.members_depth (members_outline ms) ≡ members_depth ms
  same_members_depth no_members = refl
  same_members_depth (member k d ms) = ap₂ max (same_depth d) (same_members_depth ms)

number_read : (n : NodeId) → n.0 < 2 ^ 32 → of_json (outline (number_data n)) ≡ Some (number_data n)
number_read n fits = rw (number_of-decimal n.0 (omega (arith, fits))) refl

parent_read : (p : Option NodeId) → IfSome p (λ q. q.0 < 2 ^ 32) → of_json (outline (parent_data p)) ≡ Some (parent_data p)
parent_read None fits = refl
parent_read (Some p) fits = number_read p fits

attrs_read : (attrs : List Attr) → of_items (items_outline (items_of (map attr_data attrs))) ≡ Some (items_of (map attr_data attrs))
attrs_read [] = refl
attrs_read (a ∷ attrs) = rw (attrs_read attrs) refl

members_read : (row : Row) (body : Body) → IsSmall row → of_json (outline (object (members_data row body))) ≡ Some (object (members_data row body))
members_read row (Element space tag attrs) small = rw (attrs_read attrs, number_read row.id small.number, parent_read row.parent small.parent) refl
members_read row (Words text) small = rw (number_read row.id small.number, parent_read row.parent small.parent) refl

rows_read : (rows : List Row) → AllByRecursion IsSmall rows → of_items (items_outline (items_of (map row_data rows))) ≡ Some (items_of (map row_data rows))
unfolding row_data
rows_read [] small = refl
rows_read (row ∷ rows) small = rw (members_read row row.body small.0, rows_read rows small.1) refl

page_value : (address : List ℕ) (rows : List Row) → AllByRecursion IsSmall rows → of_json (outline (page_data address rows)) ≡ Some (page_data address rows)
unfolding page_data
page_value address rows small = rw (rows_read rows small) refl

-- ---- the page

pub page_print : (address : List ℕ) (rows : List Row) (ts : List Token) → ts ≡ tokens_of (page_data address rows) → print ts ≡ compact_text (page_data address rows)
page_print address rows ts is = ap print is ∙ print-outline (page_data address rows)

pub page_read : (address : List ℕ) (rows : List Row) (ts : List Token) → ts ≡ tokens_of (page_data address rows) → tokens (print ts) ≡ ts → IsUtf8 (print ts) → AllByRecursion IsSmall rows
    → json_of (print ts) ≡ Some (page_data address rows)
page_read address rows ts is same utf8 small =
    let d = page_data address rows in
    let shallow : tree.depth (outline d) ≤ max_depth = omega (arith, same_depth d, page_nests_few address rows) in
    let parsed = ap (json.value max_depth) (same ∙ is ∙ sym (append-nil (tokens_of d))) ∙ value-json_tokens (outline d) max_depth [] shallow in
    is_json (print ts) d utf8 (ap (λ o. option_and_then of_json (option_and_then (λ p. json.if_last p.0 p.1) o)) parsed ∙ page_value address rows small)
