-- What is the same by number, also of a number that the old page doesn't hold.
use Rattle.std.proofs.Common.{◌≡◌, ◌&&◌, ◌==◌, not, List, [], ◌∷◌, map, Bool, true, false, if◌then◌else◌, Option, Some, None, Bor, option_map, refl, sym, ◌∙◌, ap}
use Rattle.std.proofs.lemmas.Bool.Decides.{Decides-eqb}
use Rattle.std.specs.List.{find}
use Rattle.std.specs.Cmp.Lexicographic.{pointwise}
use Rattle.std.specs.Option.{option_eq, option_or, option_map_or, option_copied, is_some, is_none}
use Rattle.snap_tree.specs.declared.row.NodeId.{NodeId}
use Rattle.snap_tree.specs.declared.row.Row.{Row}
use Rattle.snap_tree.specs.Lookups.{node}
use Rattle.snap_tree.specs.Rows.{has_number}
use Rattle.snap_tree.specs.Spots.{Spot, spot}
use Rattle.snap_tree.specs.Trees.{Trees, rows_of}
use Rattle.snap_tree.proofs.Spotting.{spot_row}
use Rattle.acc_tree.specs.Seen.{seen_row}
use Rattle.acc_tree.specs.Frames.{frame}
use Rattle.acc_tree.specs.Sights.{Sight, sight_of}
use Rattle.page_keys.specs.Keys.{frame_key, own_key, kids_key, own, root_numbers, frame_at, own_at, kids_at}
use Rattle.page_keys.specs.Same.{same_node, same_frame, same_own, same, all_same}
use Rattle.page_keys.specs.Nodes.{frames_of, frames_above, self_keys, keys_in, keys_below, tree_keys}
use Rattle.page_keys.proofs.Agreeing.{no_sight}
use Rattle.page_changes.specs.declared.by_number.Agreement.{Agreement}
use Rattle.page_changes.specs.Marks.{marks_of}
use Rattle.page_changes.specs.ByNumber.{agreed, first_agreed, strange}

pub row_lost : (t : Trees) (n : NodeId) (r : Option (Bor Row)) → option_map seen_row (option_copied r) ≡ option_map (λ s. s.row) (sight_of t n) → is_none r ≡ not (is_some (sight_of t n))
row_lost t n r h = by_both r (sight_of t n) h
  where
    by_both : (r : Option (Bor Row)) (o : Option Sight) → option_map seen_row (option_copied r) ≡ option_map (λ (s : Sight). s.row) o → is_none r ≡ not (is_some o)
    by_both None None h = refl
    by_both None (Some s) h = cc
    by_both (Some r) None h = cc
    by_both (Some r) (Some s) h = refl

-- ---- a list by its numbers

pub marks_find : (old new : Trees) (n : NodeId) (rows : List Row) → first_agreed n.0 (map (λ row. marks_of old new row.id) rows) ≡ option_map (λ row. agreed (marks_of old new row.id)) (find (has_number n) rows)
marks_find old new n [] = refl
marks_find old new n (row ∷ rows) = by_number (row.id.0 == n.0) (marks_find old new n rows)
  where
    by_number : (b : Bool) → first_agreed n.0 (map (λ (row : Row). marks_of old new row.id) rows) ≡ option_map (λ (row : Row). agreed (marks_of old new row.id)) (find (has_number n) rows)
        → (if b then Some (agreed (marks_of old new row.id)) else first_agreed n.0 (map (λ (row : Row). marks_of old new row.id) rows)) ≡ option_map (λ (row : Row). agreed (marks_of old new row.id)) (if b then Some row else find (has_number n) rows)
    by_number true h = refl
    by_number false h = h

-- ---- a number that is there

pub found_number : (n : NodeId) (rows : List Row) (row : Row) → find (has_number n) rows ≡ Some row → row.id ≡ n
found_number n [] row e = cc
found_number n (x ∷ rows) row e = by_number (has_number n x) refl e (found_number n rows row)
  where
    by_number : (b : Bool) → has_number n x ≡ b → find (has_number n) (x ∷ rows) ≡ Some row → (find (has_number n) rows ≡ Some row → row.id ≡ n) → row.id ≡ n
    by_number true e h k =
        let is : Some x ≡ Some row = rw e at h in
        let same_row : x ≡ row = cc in
        ap (λ (r : Row). r.id) (sym same_row) ∙ ap (λ k. record { 0 = k }) ((Decides-eqb x.id.0 n.0).0 e)
    by_number false e h k = let is : find (has_number n) rows ≡ Some row = rw e at h in k is

pub marks_found : (old new : Trees) (n : NodeId) (m : Agreement) → Some m ≡ option_map (λ row. agreed (marks_of old new row.id)) (node old n) → m ≡ agreed (marks_of old new n)
marks_found old new n m e = by_row (node old n) refl e
  where
    by_row : (o : Option Row) → node old n ≡ o → Some m ≡ option_map (λ (row : Row). agreed (marks_of old new row.id)) o → m ≡ agreed (marks_of old new n)
    by_row None k h = cc
    by_row (Some row) k h =
        let is : m ≡ agreed (marks_of old new row.id) = cc in
        is ∙ ap (λ n. agreed (marks_of old new n)) (found_number n (rows_of old) row k)

-- ---- a number that isn't

no_spot : (t : Trees) (n : NodeId) → node t n ≡ None → spot t n ≡ None
no_spot t n e = by_spot (spot t n) (spot_row n [] t ∙ e)
  where
    by_spot : (o : Option Spot) → option_map (λ (s : Spot). s.row) o ≡ None → o ≡ None
    by_spot None h = refl
    by_spot (Some s) h = cc

lost_frame : (old new : Trees) (n : NodeId) → sight_of old n ≡ None → same old new (frame_key n) ≡ not (is_some (sight_of new n))
unfolding same
lost_frame old new n e = ap (λ o. option_eq same_frame (option_map (λ (s : Sight). frame s.above s.row) o) (frame_at new n)) e ∙ by_sight (sight_of new n)
  where
    by_sight : (o : Option Sight) → option_eq same_frame None (option_map (λ (s : Sight). frame s.above s.row) o) ≡ not (is_some o)
    by_sight None = refl
    by_sight (Some s) = refl

lost_own : (old new : Trees) (n : NodeId) → sight_of old n ≡ None → same old new (own_key n) ≡ not (is_some (sight_of new n))
unfolding same
lost_own old new n e = ap (λ o. option_eq same_own (option_map (λ (s : Sight). own s.row) o) (own_at new n)) e ∙ by_sight (sight_of new n)
  where
    by_sight : (o : Option Sight) → option_eq same_own None (option_map (λ (s : Sight). own s.row) o) ≡ not (is_some o)
    by_sight None = refl
    by_sight (Some s) = refl

lost_kids : (old new : Trees) (n : NodeId) → sight_of old n ≡ None → same old new (kids_key n) ≡ not (is_some (sight_of new n))
unfolding same
lost_kids old new n e = ap (λ o. option_eq (pointwise same_node) (option_map (λ (s : Sight). root_numbers s.below) o) (kids_at new n)) e ∙ by_sight (sight_of new n)
  where
    by_sight : (o : Option Sight) → option_eq (pointwise same_node) None (option_map (λ (s : Sight). root_numbers s.below) o) ≡ not (is_some o)
    by_sight None = refl
    by_sight (Some s) = refl

twice : (b : Bool) → b ≡ (b && (b && true))
twice true = refl
twice false = refl

thrice : (b : Bool) → b ≡ (b && (b && (b && true)))
thrice true = refl
thrice false = refl

pub marks_lost : (old new : Trees) (n : NodeId) → None ≡ option_map (λ row. agreed (marks_of old new row.id)) (node old n) → strange (not (is_some (sight_of new n))) ≡ agreed (marks_of old new n)
marks_lost old new n e =
    let lost = not (is_some (sight_of new n)) in
    let away : spot old n ≡ None = no_spot old n (none (node old n) e) in
    let unseen : sight_of old n ≡ None = no_sight old n away in
    let f : lost ≡ same old new (frame_key n) = sym (lost_frame old new n unseen) in
    let o : lost ≡ same old new (own_key n) = sym (lost_own old new n unseen) in
    let k : lost ≡ same old new (kids_key n) = sym (lost_kids old new n unseen) in
    let up : true ≡ all_same old new (frames_above old n) = sym (ap (λ o. all_same old new (option_map_or (λ (s : Spot). frames_of s.above) o [])) away) in
    let below : true ≡ all_same old new (keys_below old n) = sym (ap (λ o. all_same old new (option_map_or (λ (s : Spot). keys_in s.below) o [])) away) in
    let itself : lost ≡ all_same old new (self_keys old n) = twice lost ∙ (λ i. f i && (o i && up i)) in
    let trees : lost ≡ all_same old new (tree_keys old n) = thrice lost ∙ (λ i. f i && (o i && (k i && below i))) in
    λ i. record { itself = itself i; own = o i; tree = trees i }
  where
    none : (o : Option Row) → None ≡ option_map (λ (row : Row). agreed (marks_of old new row.id)) o → o ≡ None
    none None h = refl
    none (Some row) h = cc
