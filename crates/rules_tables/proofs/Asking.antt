-- What is kept of cells finds those that are assigned to a header.
use Rattle.std.proofs.Common.{◌≡◌, ◌&&◌, ◌||◌, ◌==◌, not, cond, eqb, ℕ, List, [], ◌∷◌, ◌++◌, map, Bool, true, false, Option, Some, None, option_map, IfSome, refl, sym, ap, ◌∙◌, subst}
use Rattle.std.proofs.lemmas.Bool.{eqb-true}
use Rattle.std.proofs.lemmas.List.{map-append}
use Rattle.std.proofs.lemmas.List.Folds.{list_any-append}
use Rattle.std.specs.List.{list_any, find, AllByRecursion}
use Rattle.std.specs.Borrow.{Bor}
use Rattle.std.specs.Option.{option_or, option_copied}
use Rattle.std.specs.Str.{bytes_eq}
use Rattle.snap_tree.specs.declared.row.NodeId.{NodeId}
use Rattle.snap_tree.specs.declared.row.Row.{Row}
use Rattle.snap_tree.specs.Rows.{has_number}
use Rattle.texts.specs.Words.{words}
use Rattle.acc_tree.specs.declared.attributes.Attribute.TheVariants as attribute
use Rattle.acc_tree.specs.Seen.{text_at, is_blank_at}
use Rattle.rules_tables.specs.declared.heads.CellPlace.{CellPlace}
use Rattle.rules_tables.specs.declared.heads.Cells.{Cells}
use Rattle.rules_tables.specs.declared.heads.Heads.{Heads}
use Rattle.rules_tables.specs.declared.table_ids.TableIds.{TableIds}
use Rattle.rules_tables.specs.TableIds.{AreIds, AreIdsOfPage, AreAllIds}
use Rattle.rules_tables.specs.Tables.{below}
use Rattle.snap_tree.specs.Trees.{Trees}
use Rattle.rules_tables.specs.Assigned.{direction_of, is_led_to, is_named, is_meant, place_of}
use Rattle.rules_tables.specs.Bearers.{bearer_of, has_other, HasPutAll}
use Rattle.rules_tables.specs.Grid.{Placed}
use Rattle.rules_tables.specs.Heads.{place_among, leads_to, is_named_in, finds_at, finds, place_at, HasData, Keeps, IsOf, IsOfPage, AreOfPage}
use Rattle.rules_tables.specs.Survey.{is_data, is_its}
use Rattle.rules_tables.proofs.Placing.{in_turn}

-- ---- a data cell more

open_more : (l n x : Bool) → ((l || (x || false)) || n) ≡ ((l || n) || x)
open_more true n x = refl
open_more false true true = refl
open_more false true false = refl
open_more false false true = refl
open_more false false false = refl

named_more : (l i h c n : Bool) → (l || (i && (h || (c && n)))) ≡ ((l || (i && h)) || (n && (i && c)))
named_more true i h c n = refl
named_more false false h c true = refl
named_more false false h c false = refl
named_more false true true c n = refl
named_more false true false true true = refl
named_more false true false false true = refl
named_more false true false true false = refl
named_more false true false false false = refl

pub open_data : (old new : Cells) (p : Placed) → new.places.items ≡ old.places.items → new.named ≡ old.named → new.open.items ≡ old.open.items ++ place_at p ∷ [] → is_blank_at attribute.Headers p.cell ≡ true → HasData old new p
open_data old new p places named more blank = record {
  same_places = places;
  found = λ header o.
      ap (λ ns. list_any (leads_to header o) new.open.items || is_named_in ns header) named
      ∙ ap (λ os. list_any (leads_to header o) os || is_named_in old.named header) more
      ∙ ap (λ b. b || is_named_in old.named header) (list_any-append (leads_to header o) old.open.items (place_at p ∷ []))
      ∙ open_more (list_any (leads_to header o) old.open.items) (is_named_in old.named header) (leads_to header o (place_at p))
      ∙ ap (λ b. finds_at old header o || (not (has_number header.id p.cell) && cond b (is_led_to (direction_of header) o p.area) (is_named header p.cell))) (sym blank);
}

pub named_data : (old new : Cells) (p : Placed) → new.places.items ≡ old.places.items → new.open.items ≡ old.open.items → HasPutAll old.named new.named (words (text_at attribute.Headers p.cell)) p.cell.id → is_blank_at attribute.Headers p.cell ≡ false → HasData old new p
named_data old new p places same put filled = record {
  same_places = places;
  found = λ header o.
      let id = text_at attribute.Id header in
      ap (λ os. list_any (leads_to header o) os || is_named_in new.named header) same
      ∙ ap (λ b. list_any (leads_to header o) old.open.items || (not (is_blank_at attribute.Id header) && b)) (put id header.id)
      ∙ named_more (list_any (leads_to header o) old.open.items) (not (is_blank_at attribute.Id header)) (has_other (bearer_of old.named id) header.id) (list_any (bytes_eq id) (words (text_at attribute.Headers p.cell))) (not (eqb p.cell.id.0 header.id.0))
      ∙ ap (λ b. finds_at old header o || (not (has_number header.id p.cell) && cond b (is_led_to (direction_of header) o p.area) (is_named header p.cell))) (sym filled);
}

-- ---- a cell more

is_one : (f n m : Bool) → (f || (n && m)) ≡ (f || ((n && (m && true)) || false))
is_one true n m = refl
is_one false true true = refl
is_one false true false = refl
is_one false false m = refl

is_none : (f n m : Bool) → f ≡ (f || ((n && (m && false)) || false))
is_none true n m = refl
is_none false true true = refl
is_none false true false = refl
is_none false false m = refl

places_more : (places now : List CellPlace) (before : List Placed) (p : Placed) → places ≡ map place_at before → now ≡ places ++ place_at p ∷ [] → now ≡ map place_at (before ++ p ∷ [])
places_more places now before p so_far more = more ∙ ap (λ ps. ps ++ place_at p ∷ []) so_far ∙ sym (map-append place_at before (p ∷ []))

pub data_more : (old mid new : Cells) (before : List Placed) (p : Placed) → Keeps old before → mid.places.items ≡ old.places.items ++ place_at p ∷ [] → mid.open ≡ old.open → mid.named ≡ old.named → HasData mid new p → is_data p.cell ≡ true → Keeps new (before ++ p ∷ [])
data_more old mid new before p k places opens nameds has fits = record {
  places = places_more old.places.items new.places.items before p k.places (has.same_places ∙ places);
  found = λ header o.
      let n = not (has_number header.id p.cell) in
      let m = is_meant header (direction_of header) o p in
      has.found header o ∙ ap (λ os. (list_any (leads_to header o) os.items || is_named_in mid.named header) || (n && m)) opens
      ∙ ap (λ ns. (list_any (leads_to header o) old.open.items || is_named_in ns header) || (n && m)) nameds
      ∙ ap (λ b. b || (n && m)) (k.found header o)
      ∙ is_one (list_any (is_its header (direction_of header) o) before) n m
      ∙ ap (λ b. list_any (is_its header (direction_of header) o) before || ((n && (m && b)) || false)) (sym fits)
      ∙ sym (list_any-append (is_its header (direction_of header) o) before (p ∷ []));
}

pub other_more : (old new : Cells) (before : List Placed) (p : Placed) → Keeps old before → new.places.items ≡ old.places.items ++ place_at p ∷ [] → new.open ≡ old.open → new.named ≡ old.named → is_data p.cell ≡ false → Keeps new (before ++ p ∷ [])
other_more old new before p k places opens nameds fits = record {
  places = places_more old.places.items new.places.items before p k.places places;
  found = λ header o.
      let n = not (has_number header.id p.cell) in
      let m = is_meant header (direction_of header) o p in
      ap (λ os. list_any (leads_to header o) os.items || is_named_in new.named header) opens
      ∙ ap (λ ns. list_any (leads_to header o) old.open.items || is_named_in ns header) nameds
      ∙ k.found header o
      ∙ is_none (list_any (is_its header (direction_of header) o) before) n m
      ∙ ap (λ b. list_any (is_its header (direction_of header) o) before || ((n && (m && b)) || false)) (sym fits)
      ∙ sym (list_any-append (is_its header (direction_of header) o) before (p ∷ []));
}

-- ---- the cells of a grid, in turn

swapped : (a b : Bool) → (a || (b || false)) ≡ (b || a)
swapped true true = refl
swapped true false = refl
swapped false true = refl
swapped false false = refl

any_turn : (f : Placed → Bool) (g : List Placed) → list_any f (in_turn g) ≡ list_any f g
any_turn f [] = refl
any_turn f (p ∷ g) = list_any-append f (in_turn g) (p ∷ []) ∙ swapped (list_any f (in_turn g)) (f p) ∙ ap (λ b. f p || b) (any_turn f g)

place_both : (n : NodeId) (xs ys : List CellPlace) → place_among n (xs ++ ys) ≡ option_or (place_among n xs) (place_among n ys)
place_both n [] ys = refl
place_both n (x ∷ xs) ys = by (eqb x.id.0 n.0) (place_both n xs ys)
  where
    by : (b : Bool) → place_among n (xs ++ ys) ≡ option_or (place_among n xs) (place_among n ys)
        → option_map (λ (p : CellPlace). p.area) (cond b (Some x) (find (λ (p : CellPlace). eqb p.id.0 n.0) (xs ++ ys))) ≡ option_or (option_map (λ (p : CellPlace). p.area) (cond b (Some x) (find (λ (p : CellPlace). eqb p.id.0 n.0) xs))) (place_among n ys)
    by true h = refl
    by false h = h

one_place : (b : Bool) (p : CellPlace) → option_map (λ (p : CellPlace). p.area) (cond b (Some p) None) ≡ cond b (Some p.area) None
one_place true p = refl
one_place false p = refl

place_turn : (n : NodeId) (g : List Placed) → place_among n (map place_at (in_turn g)) ≡ place_of n g
place_turn n [] = refl
place_turn n (p ∷ g) =
    ap (place_among n) (map-append place_at (in_turn g) (p ∷ [])) ∙ place_both n (map place_at (in_turn g)) (place_at p ∷ [])
    ∙ ap (λ o. option_or o (place_among n (place_at p ∷ []))) (place_turn n g) ∙ ap (option_or (place_of n g)) (one_place (has_number n p.cell) (place_at p))

-- what is kept of the cells of a grid finds those that are assigned to a header where it stands
pub finds_in_grid : (cells : Cells) (g : List Placed) → Keeps cells (in_turn g) → (header : Row) → finds cells header ≡ list_any (is_its header (direction_of header) (place_of header.id g)) g
finds_in_grid cells g k header =
    k.found header (place_among header.id cells.places.items) ∙ ap (λ o. list_any (is_its header (direction_of header) o) (in_turn g)) (ap (place_among header.id) k.places ∙ place_turn header.id g)
    ∙ any_turn (is_its header (direction_of header) (place_of header.id g)) g

-- ---- tables of a page

pub all_more : {X : Type 0} (P : X → Type 0) (xs : List X) (x : X) → AllByRecursion P xs → P x → AllByRecursion P (xs ++ x ∷ [])
all_more P [] x h k = (k, tt)
all_more P (y ∷ xs) x h k = (h.0, all_more P xs x h.1 k)

-- what a look-up finds among things that all have a property has it, and passes the test
pub found_one : {X : Type 0} (P : X → Type 0) (test : X → Bool) (xs : List X) (o : Option (Bor X)) → option_copied o ≡ find test xs → AllByRecursion P xs → IfSome o (λ x. (test x.now ≡ true) × P x.now)
found_one P test [] None e all = tt
found_one P test [] (Some x) e all = absurd cc
found_one {X} P test (y ∷ xs) o e all = by (test y) refl (λ o e. found_one P test xs o e all.1) o e
  where
    by : (b : Bool) → test y ≡ b → ((o : Option (Bor X)) → option_copied o ≡ find test xs → IfSome o (λ x. (test x.now ≡ true) × P x.now))
        → (o : Option (Bor X)) → option_copied o ≡ cond b (Some y) (find test xs) → IfSome o (λ x. (test x.now ≡ true) × P x.now)
    by false h later o e = later o e
    by true h later None e = absurd cc
    by true h later (Some x) e = let same : x.now ≡ y = cc in (ap test same ∙ h, subst P (sym same) all.0)

pub same_number : (n m : NodeId) → eqb n.0 m.0 ≡ true → n ≡ m
same_number n m e = ap (λ (k : ℕ). record { 0 = k }) (eqb-true n.0 m.0 e)

-- what is kept of a table among those of a page is that of the table of this number
pub of_number : (page : Trees) (tables : List Heads) (n : NodeId) (heads : Bor Heads) (table : Trees) → Some heads.now ≡ find (λ (h : Heads). h.table.0 == n.0) tables → AreOfPage page tables
    → Some table ≡ below page n → IsOf table heads.now
of_number page tables n heads table e are at =
    let found = found_one (IsOfPage page) (λ (h : Heads). h.table.0 == n.0) tables (Some heads) e are in
    found.1 table (at ∙ ap (below page) (sym (same_number heads.now.table n found.0)))

pub ids_of_number : (page : Trees) (tables : List TableIds) (n : NodeId) (ids : Bor TableIds) (table : Trees) → Some ids.now ≡ find (λ (t : TableIds). t.table.0 == n.0) tables → AreAllIds page tables
    → Some table ≡ below page n → AreIds table ids.now.ids
ids_of_number page tables n ids table e are at =
    let found = found_one (AreIdsOfPage page) (λ (t : TableIds). t.table.0 == n.0) tables (Some ids) e are in
    found.1 table (at ∙ ap (below page) (sym (same_number ids.now.table n found.0)))
