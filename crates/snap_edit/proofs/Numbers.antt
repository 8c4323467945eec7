-- Numbers that two lists of rows share.
use Rattle.std.proofs.Common.{◌≡◌, ◌==◌, ℕ, List, [], ◌∷◌, Bool, true, false, ◌||◌, Option, Some, None, refl, sym, ◌∙◌, ap}
use Rattle.std.specs.Option.{is_some, option_map}
use Rattle.std.specs.List.{list_any, find}
use Rattle.std.specs.Ordering.{nat_cmp}
use Rattle.std.specs.BTreeSet.{BTreeSet, contains}
use Rattle.snap_tree.specs.declared.row.NodeId.{NodeId}
use Rattle.snap_tree.specs.declared.row.Row.{Row}
use Rattle.snap_tree.specs.Trees.{rows_of}
use Rattle.snap_tree.specs.Grown.{grown}
use Rattle.snap_tree.specs.Rows.{has_number}
use Rattle.snap_tree.specs.Spots.{Spot, spot}
use Rattle.snap_tree.proofs.Growth.{rows_of_grown}
use Rattle.snap_tree.proofs.Spotting.{spot_row}
use Rattle.snap_tree.proofs.Wellness.{same_number}
use Rattle.snap_edit.specs.Edits.{has_taken}
use Rattle.snap_edit.specs.Taken.{AreNumbers}

any_alike : (p q : Row → Bool) → ((r : Row) → p r ≡ q r) → (rows : List Row) → list_any p rows ≡ list_any q rows
any_alike p q alike [] = refl
any_alike p q alike (r ∷ rows) =
    ap (λ b. b || list_any p rows) (alike r) ∙ ap (λ b. q r || b) (any_alike p q alike rows)

any_of_none : (rows : List Row) → list_any (λ r. false) rows ≡ false
any_of_none [] = refl
any_of_none (r ∷ rows) = any_of_none rows

or_pairs : (a b c d : Bool) → ((a || b) || (c || d)) ≡ ((a || c) || (b || d))
or_pairs true b c d = refl
or_pairs false true true d = refl
or_pairs false true false d = refl
or_pairs false false true d = refl
or_pairs false false false d = refl

any_either :
    (p q : Row → Bool) (rows : List Row)
    → list_any (λ r. p r || q r) rows ≡ (list_any p rows || list_any q rows)
any_either p q [] = refl
any_either p q (r ∷ rows) =
    ap (λ b. (p r || q r) || b) (any_either p q rows) ∙ or_pairs (p r) (q r) (list_any p rows) (list_any q rows)

-- a row of the first list has a number of the second exactly where one of the second has one of the first
shared :
    (numbers : BTreeSet ℕ) (new rows : List Row)
    → AreNumbers numbers new
    → list_any (λ r. contains nat_cmp numbers r.id.0) rows ≡ list_any (λ r. list_any (has_number r.id) rows) new
shared numbers new [] h = sym (any_of_none new)
shared numbers new (x ∷ rows) h =
    let own : contains nat_cmp numbers x.id.0 ≡ list_any (λ r. x.id.0 == r.id.0) new =
    h x.id.0 ∙ any_alike (λ r. r.id.0 == x.id.0) (λ r. x.id.0 == r.id.0) (λ r. same_number r.id.0 x.id.0) new
    in
    ap (λ b. b || list_any (λ r. contains nat_cmp numbers r.id.0) rows) own
    ∙ ap (λ b. list_any (λ r. x.id.0 == r.id.0) new || b) (shared numbers new rows h)
    ∙ sym (any_either (λ r. x.id.0 == r.id.0) (λ r. list_any (has_number r.id) rows) new)

-- ---- numbers that a page holds

some_found : (p : Row → Bool) (rows : List Row) → is_some (find p rows) ≡ list_any p rows
some_found p [] = refl
some_found p (r ∷ rows) = by_test (p r) refl (some_found p rows)
  where
    by_test :
        (b : Bool)
        → p r ≡ b → is_some (find p rows) ≡ list_any p rows → is_some (find p (r ∷ rows)) ≡ list_any p (r ∷ rows)
    by_test true e h = rw e refl
    by_test false e h = rw e h

some_row : (o : Option Spot) → is_some (option_map (λ s. s.row) o) ≡ is_some o
some_row None = refl
some_row (Some s) = refl

pub held_by : (rows : List Row) (n : NodeId) → is_some (spot (grown rows) n) ≡ list_any (has_number n) rows
held_by rows n =
    sym (some_row (spot (grown rows) n)) ∙ ap is_some (spot_row n [] (grown rows))
    ∙ some_found (has_number n) (rows_of (grown rows)) ∙ ap (list_any (has_number n)) (rows_of_grown rows)

pub taken_is :
    (numbers : BTreeSet ℕ) (new rows : List Row)
    → AreNumbers numbers new → list_any (λ r. contains nat_cmp numbers r.id.0) rows ≡ has_taken (grown rows) new
taken_is numbers new rows h =
    shared numbers new rows h
    ∙ any_alike (λ r. list_any (has_number r.id) rows) (λ r. is_some (spot (grown rows) r.id)) (λ r. sym (held_by rows r.id)) new
