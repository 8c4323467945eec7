-- One more row is taken in.
use Rattle.std.proofs.Common.{◌≡◌, ◌≢◌, ⊎_elim, subst, ℕ, suc, ◌+◌, ◌==◌, List, [], ◌∷◌, ◌++◌, length, map, reverse, Bool, true, false, not, Option, Some, None, if◌then◌else◌, refl, sym, ◌∙◌, ap, arith, MatchOption, add-zero}
use Rattle.std.proofs.lemmas.List.{reverse-append, length-reverse, length-map}
use Rattle.std.proofs.lemmas.Bool.{cases_eq}
use Rattle.std.proofs.lemmas.Bool.Decides.{nat_tests}
use Rattle.std.specs.Option.{option_or, is_some, unwrap_or}
use Rattle.std.specs.List.{list_any}
use Rattle.snap_tree.specs.declared.row.Row.{Row}
use Rattle.snap_tree.specs.declared.row.NodeId.{NodeId}
use Rattle.snap_tree.specs.declared.build.Opened.{Opened}
use Rattle.number_tables.specs.declared.table.NumberTable.{NumberTable}
use Rattle.number_tables.specs.Tables.{at, Puts}
use Rattle.snap_tree.specs.declared.fault.TreeFault.TheVariants.{DoubleNumber, ParentUnknownOrNotOpen}
use Rattle.snap_tree.specs.Trees.{Trees, empty, tree, beside}
use Rattle.snap_tree.specs.Grown.{grown, under, planted}
use Rattle.snap_tree.specs.Rows.{has_number}
use Rattle.snap_tree.specs.Faults.{open_rows, ancestors, is_below_text, is_misplaced, is_first, place_fault, row_fault}
use Rattle.snap_tree.specs.Places.{place_from, IsPlaces}
use Rattle.snap_tree.specs.Opened.{opened, from_opened, is_below, HasEntered}
use Rattle.snap_tree.proofs.Growth.{grown_push}
use Rattle.snap_tree.proofs.Opening.{from_opened-map, under_opens, Went}

-- ---- places

pub place_from-any : (from : ℕ) (n : NodeId) (rows : List Row) → is_some (place_from from n.0 rows) ≡ list_any (has_number n) rows
place_from-any from n [] = refl
place_from-any from n (r ∷ rows) = by_test (r.id.0 == n.0) refl (place_from-any (from + 1) n rows)
  where
    by_test : (b : Bool) → (r.id.0 == n.0) ≡ b → is_some (place_from (from + 1) n.0 rows) ≡ list_any (has_number n) rows → is_some (place_from from n.0 (r ∷ rows)) ≡ list_any (has_number n) (r ∷ rows)
    by_test true e h = rw e refl
    by_test false e h = rw e h

pub place_from-push : (from n : ℕ) (rows : List Row) (r : Row) → place_from from n (rows ++ r ∷ []) ≡ option_or (place_from from n rows) (if r.id.0 == n then Some (from + length rows) else None)
place_from-push from n [] r = rw add-zero refl
place_from-push from n (x ∷ rows) r = by_test (x.id.0 == n) refl (place_from-push (from + 1) n rows r)
  where
    sums : from + 1 + length rows ≡ from + suc (length rows)
    sums = omega arith

    by_test : (b : Bool) → (x.id.0 == n) ≡ b → place_from (from + 1) n (rows ++ r ∷ []) ≡ option_or (place_from (from + 1) n rows) (if r.id.0 == n then Some (from + 1 + length rows) else None) → place_from from n (x ∷ (rows ++ r ∷ [])) ≡ option_or (place_from from n (x ∷ rows)) (if r.id.0 == n then Some (from + suc (length rows)) else None)
    by_test true e h = rw e refl
    by_test false e h = rw e (h ∙ ap (λ k. option_or (place_from (from + 1) n rows) (if r.id.0 == n then Some k else None)) sums)

pub number_is_taken : (places : NumberTable ℕ) (earlier : List Row) (r : Row) → IsPlaces places earlier → is_some (at places r.id.0) ≡ list_any (has_number r.id) earlier
number_is_taken places earlier r placed = ap is_some (placed r.id.0) ∙ place_from-any 0 r.id earlier

-- what a table says of whether a number is new
is_taken_as : (taken is_new : Bool) → is_new ≡ not taken → taken ≡ not is_new
is_taken_as true is_new is = sym (ap not is)
is_taken_as false is_new is = sym (ap not is)

pub taken_or_new : (places : NumberTable ℕ) (earlier : List Row) (r : Row) (is_new : Bool) → IsPlaces places earlier → is_new ≡ not (is_some (at places r.id.0)) → list_any (has_number r.id) earlier ≡ not is_new
taken_or_new places earlier r is_new placed is = sym (number_is_taken places earlier r placed) ∙ is_taken_as _ is_new is

-- ---- faults

pub row_fault_double : (earlier : List Row) (r : Row) → list_any (has_number r.id) earlier ≡ true → row_fault earlier r ≡ Some (DoubleNumber r.id)
row_fault_double earlier r e = rw e refl

pub row_fault_new : (earlier : List Row) (r : Row) → list_any (has_number r.id) earlier ≡ false → row_fault earlier r ≡ place_fault (is_first earlier) r (length (ancestors r (grown earlier))) (is_below_text (ancestors r (grown earlier)))
row_fault_new earlier r e = rw e refl

pub placed_of_fault : (first : Bool) (r : Row) (above : ℕ) (below : Bool) → place_fault first r above below ≡ None → is_misplaced first r above ≡ false
unfolding place_fault
placed_of_fault first r above below h = by_test (is_misplaced first r above) refl h
  where
    by_test : (b : Bool) → is_misplaced first r above ≡ b → place_fault first r above below ≡ None → is_misplaced first r above ≡ false
    by_test false e h = e
    by_test true e h = let no : Some (ParentUnknownOrNotOpen r.id) ≡ None = rw e at h in cc

-- ---- the open nodes

pub path_is : (path closed : List Opened) (r : Row) (t : Trees) → reverse path ≡ map opened (open_rows t) → reverse closed ≡ from_opened r (reverse path) → reverse closed ≡ map opened (ancestors r t)
path_is path closed r t e h = h ∙ ap (from_opened r) e ∙ from_opened-map r (open_rows t)

pub path_length : (path : List Opened) (above : List Row) → reverse path ≡ map opened above → length path ≡ length above
path_length path above e = sym (length-reverse path) ∙ ap length e ∙ length-map above opened

pub path_text : (path : List Opened) (above : List Row) → reverse path ≡ map opened above → is_below (reverse path) ≡ is_below_text above
path_text path [] e = ap is_below e
path_text path (x ∷ above) e = ap is_below e

opens_in : (r : Row) (t : Trees) (o : Option Trees) → under r t ≡ o → MatchOption o (ancestors r t ≡ []) (Went r t) → (length (ancestors r t) == 0) ≡ false → open_rows (planted r t) ≡ r ∷ ancestors r t
opens_in r t None e h p = let no : true ≡ false = sym (ap (λ rows. length rows == 0) h) ∙ p in cc
opens_in r t (Some new) e h p =
    ap (λ o. open_rows (unwrap_or o (beside t (tree r empty empty)))) e ∙ h.opens ∙ ap (λ rows. r ∷ rows) (sym h.found)

-- a row that has its place opens below its parent
pub opens_next : (earlier : List Row) (r : Row) → is_misplaced (is_first earlier) r (length (ancestors r (grown earlier))) ≡ false → open_rows (grown (earlier ++ r ∷ [])) ≡ r ∷ ancestors r (grown earlier)
opens_next [] r h = refl
opens_next (x ∷ earlier) r h =
    ap open_rows (grown_push (x ∷ earlier) r) ∙ opens_in r (grown (x ∷ earlier)) (under r (grown (x ∷ earlier))) refl (under_opens r (grown (x ∷ earlier))) h

-- ---- the state after the row

push_opened : (path : List Opened) (r : Row) (above : List Row) → reverse path ≡ map opened above → reverse (path ++ opened r ∷ []) ≡ map opened (r ∷ above)
push_opened path r above e = reverse-append path (opened r ∷ []) ∙ ap (λ xs. opened r ∷ xs) e

pub placed_more : (places new : NumberTable ℕ) (earlier : List Row) (r : Row) → IsPlaces places earlier → Puts places new r.id.0 (length earlier) → IsPlaces new (earlier ++ r ∷ [])
placed_more places new earlier r placed puts n =
    puts n ∙ ap (λ o. option_or o (if r.id.0 == n then Some (length earlier) else None)) (placed n) ∙ sym (place_from-push 0 n earlier r ∙ ap (λ k. option_or (place_from 0 n earlier) (if r.id.0 == n then Some k else None)) zero_plus)
  where
    zero_plus : 0 + length earlier ≡ length earlier
    zero_plus = omega arith

pub is_first-length : (rows : List Row) → (length rows == 0) ≡ is_first rows
is_first-length [] = refl
is_first-length (r ∷ rows) = grind (arith, nat_tests)

-- the row is taken in, where it has no fault
pub entered : (places new : NumberTable ℕ) (path closed : List Opened) (earlier : List Row) (r : Row) → HasEntered places path earlier → Puts places new r.id.0 (length earlier) → list_any (has_number r.id) earlier ≡ false
    → reverse closed ≡ from_opened r (reverse path) → is_misplaced (is_first earlier) r (length (ancestors r (grown earlier))) ≡ false → HasEntered new (closed ++ opened r ∷ []) (earlier ++ r ∷ [])
entered places new path closed earlier r h puts free e place = record {
  placed = placed_more places new earlier r h.placed puts;
  opens = push_opened closed r (ancestors r (grown earlier)) (path_is path closed r (grown earlier) h.opens e) ∙ ap (map opened) (sym (opens_next earlier r place));
}

-- what the code tests of the closed path is what the definition says of the ancestors
pub row_fault_is : (path closed : List Opened) (earlier : List Row) (r : Row) (first : Bool) (above : ℕ) (below : Bool) → reverse path ≡ map opened (open_rows (grown earlier)) → reverse closed ≡ from_opened r (reverse path)
    → list_any (has_number r.id) earlier ≡ false → first ≡ (length earlier == 0) → above ≡ length closed → below ≡ is_below (reverse closed) → row_fault earlier r ≡ place_fault first r above below
row_fault_is path closed earlier r first above below opens e free ef ea eb =
    let is = path_is path closed r (grown earlier) opens e in
    row_fault_new earlier r free
    ∙ ap (λ f. place_fault f r (length (ancestors r (grown earlier))) (is_below_text (ancestors r (grown earlier)))) (sym (ef ∙ is_first-length earlier))
    ∙ ap (λ n. place_fault first r n (is_below_text (ancestors r (grown earlier)))) (sym (ea ∙ path_length closed (ancestors r (grown earlier)) is))
    ∙ ap (place_fault first r above) (sym (eb ∙ path_text closed (ancestors r (grown earlier)) is))

pub placed_of_row : (earlier : List Row) (r : Row) → list_any (has_number r.id) earlier ≡ false → row_fault earlier r ≡ None → is_misplaced (is_first earlier) r (length (ancestors r (grown earlier))) ≡ false
placed_of_row earlier r free none = placed_of_fault _ r _ _ (sym (row_fault_new earlier r free) ∙ none)
