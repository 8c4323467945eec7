-- A node by its place among a page's rows, and the rows of a page in which it is changed.
use Rattle.std.proofs.Common.{◌≡◌, ℕ, suc, ◌+◌, List, [], ◌∷◌, ◌++◌, length, get_or, set, Bool, Some, None, Result, Ok, Err, unwrap_or, if◌then◌else◌, refl, sym, ◌∙◌, ap, subst, arith}
use Rattle.std.proofs.lemmas.List.{append-nil}
use Rattle.std.proofs.Math.Seq.{set-append_seam}
use Rattle.std.specs.Option.{option_map_or, option_map}
use Rattle.snap_tree.specs.declared.row.NodeId.{NodeId}
use Rattle.snap_tree.specs.declared.row.Row.{Row}
use Rattle.snap_tree.specs.declared.row.Attr.{Attr}
use Rattle.snap_tree.specs.declared.row.Body.{Body}
use Rattle.snap_tree.specs.declared.row.Body.TheVariants.{Element, Words}
use Rattle.snap_tree.specs.Trees.{Trees, empty, tree, rows_of, count, sizes_of}
use Rattle.snap_tree.specs.Grown.{grown}
use Rattle.snap_tree.specs.Rows.{is_text, attrs_of}
use Rattle.snap_tree.specs.Spots.{Spot, spot, number_of}
use Rattle.snap_tree.specs.Places.{place_from, HasRun, run_below}
use Rattle.snap_tree.specs.Faults.{tree_fault}
use Rattle.snap_tree.specs.Well.{AreApart}
use Rattle.snap_tree.specs.Naming.{AreNamed}
use Rattle.snap_tree.proofs.Growth.{rows_of_grown}
use Rattle.snap_tree.proofs.Wellness.{well_from_sound}
use Rattle.snap_tree.proofs.Naming.{named_well}
use Rattle.snap_tree.proofs.Spotting.{spotted, stranger, runs_at}
use Rattle.snap_edit.specs.declared.fault.EditKind.{EditKind}
use Rattle.snap_edit.specs.declared.fault.EditKind.TheVariants.{NoNode}
use Rattle.snap_edit.specs.Attrs.{body_with, with_attrs}
use Rattle.snap_edit.specs.Trees.{replaced, changed}
use Rattle.snap_edit.specs.Edits.{at}
use Rattle.snap_edit.specs.Places.{IsNodeAt, IsElementAt, of_element}
use Rattle.snap_edit.specs.Made.{IsPage, Makes}
use Rattle.snap_edit.proofs.Replacing.{Finds, finds, Parts, parts, NamesIn, replaced_named, spot_named, place_after}

pub page_of_sound : (rows : List Row) → tree_fault rows ≡ None → IsPage rows
page_of_sound rows h =
    let well = well_from_sound rows h in
    record { apart = subst AreApart (rows_of_grown rows) well.apart; named = named_well (grown rows) well }

-- ---- a node by its place

pub node_found : (rows : List Row) (n : NodeId) (place : ℕ) → place_from 0 n.0 rows ≡ Some place → IsNodeAt rows n place
node_found rows n place e = record { found = e; in_range = (spotted rows n place e).stands.in_range }

pub run_at :
    {rows : List Row} {n : NodeId} {place : ℕ}
    → IsNodeAt rows n place → HasRun place rows (sizes_of (grown rows))
run_at {rows = rows} {n = n} {place = place} at = (runs_at rows n place at.found).run

-- the spot of a page's number, as the only one
pub found_in :
    {rows : List Row} {s : Spot} (n : NodeId)
    → IsPage rows → spot (grown rows) n ≡ Some s → Finds n [] (grown rows) s
found_in {rows = rows} {s = s} n page e =
    finds n [] (grown rows) s (subst AreApart (sym (rows_of_grown rows)) page.apart) e

-- the node of a page's number stands at this place
pub record Stands (rows : List Row) (n : NodeId) (place : ℕ) : Type 0 where
  pub page : IsPage rows
  pub there : Spot
  pub is : spot (grown rows) n ≡ Some there
  pub found : Finds n [] (grown rows) there
  pub parts : Parts n (grown rows) there
  pub rows_are : rows ≡ parts.before ++ there.row ∷ (rows_of there.below ++ parts.later)
  pub at : length parts.before ≡ place
  pub row : (d : Row) → get_or rows place d ≡ there.row
  pub size : get_or (sizes_of (grown rows)) place 0 ≡ suc (count there.below)
  pub below : grown (run_below place rows (sizes_of (grown rows))) ≡ there.below
  pub names : NamesIn there

pub stands : {rows : List Row} {n : NodeId} {place : ℕ} → IsPage rows → IsNodeAt rows n place → Stands rows n place
stands {rows = rows} {n = n} {place = place} page node =
    let s = spotted rows n place node.found in
    let found = found_in n page s.is in
    let p = parts n [] (grown rows) s.there found in
    let last = rows_of s.there.below ++ p.later in
    let rows_are : rows ≡ p.before ++ s.there.row ∷ last = sym (rows_of_grown rows) ∙ p.rows_are in
    let after = place_after 0 n p.before s.there.row last p.unlike p.number in
    let first : Some (0 + length p.before) ≡ Some place =
    sym after ∙ ap (place_from 0 n.0) (sym rows_are) ∙ node.found
    in
    let at : 0 + length p.before ≡ place = ap (λ o. unwrap_or o place) first in
    let same = ap (option_map (λ (s : Spot). s.below)) (sym s.is) ∙ (runs_at rows n place node.found).below in
    record {
      page = page;
      there = s.there;
      is = s.is;
      found = found;
      parts = p;
      rows_are = rows_are;
      at = omega (arith, at);
      row = s.stands.row;
      size = s.stands.size;
      below = sym (ap (λ o. option_map_or (λ t. t) o empty) same);
      names = spot_named n [] (grown rows) s.there found page.named;
    }

-- ---- what is said of a node by its number

pub at_found :
    (t : Trees) (n : NodeId) (s : Spot) (f : Spot → Result Trees EditKind)
    → spot t n ≡ Some s → at t n f ≡ f s
at_found t n s f e = ap (λ o. option_map_or f o (Err NoNode)) e

pub at_none : (t : Trees) (n : NodeId) (f : Spot → Result Trees EditKind) → spot t n ≡ None → at t n f ≡ Err NoNode
at_none t n f e = ap (λ o. option_map_or f o (Err NoNode)) e

pub at_stranger :
    (rows : List Row) (n : NodeId) (f : Spot → Result Trees EditKind)
    → place_from 0 n.0 rows ≡ None → at (grown rows) n f ≡ Err NoNode
at_stranger rows n f e = at_none (grown rows) n f (stranger rows n e)

-- what is said of a text, and what of an element
abbrev pub by_text : Result Trees EditKind → Result Trees EditKind → Spot → Result Trees EditKind
by_text x y s = if is_text s.row then x else y

pub text_found :
    (t : Trees) (n : NodeId) (s : Spot) (b : Bool) (x y : Result Trees EditKind)
    → spot t n ≡ Some s → is_text s.row ≡ b → at t n (by_text x y) ≡ (if b then x else y)
text_found t n s b x y e is = at_found t n s (by_text x y) e ∙ ap (λ b. if b then x else y) is

pub at_text :
    {rows : List Row} {n : NodeId} {place : ℕ} {row : Row} {b : Bool} (x y : Result Trees EditKind)
    → IsNodeAt rows n place → row ≡ get_or rows place row → is_text row ≡ b
    → at (grown rows) n (by_text x y) ≡ (if b then x else y)
at_text {rows = rows} {n = n} {place = place} {row = row} {b = b} x y node r e =
    let s = spotted rows n place node.found in
    text_found (grown rows) n s.there b x y s.is (ap is_text (sym (r ∙ s.stands.row row)) ∙ e)

pub at_there :
    {rows : List Row} {n : NodeId} {place : ℕ} (h : Stands rows n place) (f : Spot → Result Trees EditKind)
    → at (grown rows) n f ≡ f h.there
at_there {rows = rows} {n = n} h f = at_found (grown rows) n h.there f h.is

-- ---- a changed row

-- the trees with something else in the place of a page's node, whose nodes name the ones above still
pub still_named :
    {rows : List Row} {n : NodeId} {place : ℕ} (f : Row → Trees → Trees) (h : Stands rows n place)
    → AreNamed h.there.row.parent (f h.there.row h.there.below) → AreNamed None (replaced n f (grown rows))
still_named {rows = rows} {n = n} f h new =
    let s = h.there in
    let named : AreNamed (number_of s.above) (f s.row s.below) =
    subst (λ parent. AreNamed parent (f s.row s.below)) h.names.own new
    in
    replaced_named n f [] (grown rows) s h.found h.page.named named

changed_rows :
    {rows : List Row} {n : NodeId} {place : ℕ} (g : Row → Row) (h : Stands rows n place)
    → rows_of (changed n g (grown rows)) ≡ set rows place (g h.there.row)
changed_rows {rows = rows} {place = place} g h =
    let s = h.there in
    let p = h.parts in
    let last = rows_of s.below ++ p.later in
    let one = ap (λ below. p.before ++ g s.row ∷ (below ++ p.later)) (append-nil (rows_of s.below)) in
    let here =
    ap (λ i. set (p.before ++ s.row ∷ last) i (g s.row)) h.at ∙ ap (λ rs. set rs place (g s.row)) (sym h.rows_are)
    in
    p.new_rows (λ r kids. tree (g r) kids empty) ∙ one ∙ sym (set-append_seam p.before s.row last (g s.row)) ∙ here

-- a row stays where it is
pub record Keeps (r new : Row) : Type 0 where
  pub id : new.id ≡ r.id
  pub parent : new.parent ≡ r.parent

-- a row that was changed in its place
pub makes_changed :
    {rows new : List Row} {n : NodeId} {place : ℕ} {row : Row} {answer : Result Trees EditKind} (g : Row → Row)
    → Stands rows n place → ((r : Row) → Keeps r (g r)) → row ≡ get_or rows place row → new ≡ set rows place (g row)
    → answer ≡ Ok (changed n g (grown rows)) → Makes new answer
makes_changed {rows = rows} {new = new} {n = n} {place = place} {row = row} g h k r e ans =
    let s = h.there in
    let is : new ≡ set rows place (g s.row) = e ∙ ap (λ r. set rows place (g r)) (r ∙ h.row row) in
    let below : AreNamed (Some (g s.row).id) s.below =
    subst (λ id. AreNamed (Some id) s.below) (sym (k s.row).id) h.names.below
    in
    let named = still_named (λ r kids. tree (g r) kids empty) h ((k s.row).parent, (below, tt)) in
    subst (Makes new) (sym ans) (changed_rows g h ∙ sym is, named)

abbrev pub with_body : Row → Body → Row
with_body r b = record { id = r.id; parent = r.parent; body = b; facts = r.facts }

-- attributes that were found of the row
with_found : (f : List Attr → List Attr) (r : Row) → with_attrs (λ _. f (attrs_of r)) r ≡ with_attrs f r
with_found f r = ap (with_body r) (by_body r.body)
  where
    by_body : (b : Body) → body_with (λ _. f (attrs_of (with_body r b))) b ≡ body_with f b
    by_body (Element space tag attrs) = refl
    by_body (Words text) = refl

-- an element's attributes that were changed
pub makes_attrs :
    {rows new : List Row} {n : NodeId} {place : ℕ} {row : Row} {own attrs : List Attr} (f : List Attr → List Attr)
    → tree_fault rows ≡ None → IsElementAt rows n place
    → row ≡ get_or rows place row → own ≡ attrs_of row → attrs ≡ f own
    → ((d : Row) → new ≡ set rows place (with_attrs (λ _. attrs) (get_or rows place d)))
    → Makes new (of_element (grown rows) n (Ok (changed n (with_attrs f) (grown rows))))
makes_attrs {rows = rows} {new = new} {place = place} {row = row} {attrs = attrs} f sound at r o a e =
    let given : new ≡ set rows place (with_attrs (λ _. attrs) row) =
    e row ∙ ap (λ r. set rows place (with_attrs (λ _. attrs) r)) (sym r)
    in
    let found : new ≡ set rows place (with_attrs f row) =
    given ∙ ap (λ attrs. set rows place (with_attrs (λ _. attrs) row)) (a ∙ ap f o)
    ∙ ap (set rows place) (with_found f row)
    in
    makes_changed (with_attrs f) (stands (page_of_sound rows sound) at.node)
    (λ r. record { id = refl; parent = refl }) r found
    (at.follows _)
