-- Marks of the nodes that may have a row.
use Rattle.std.proofs.Common.{◌≡◌, ◌≤◌, ◌<◌, ◌+◌, ℕ, zero, suc, List, [], ◌∷◌, length, map, take, drop, get_or, slice_get, Bool, true, Option, Some, None, subst, refl, sym, ◌∙◌, ap}
use Rattle.std.specs.Prelude.{slice_set}
use Rattle.std.specs.List.{filter_map, cons_option}
use Rattle.std.proofs.Math.Seq.{set_out}
use Rattle.std.proofs.lemmas.List.{take_more}
use Rattle.judge_core.specs.declared.outcomes.OutRow.{OutRow}
use Rattle.judged_rows.proofs.PartLaws.{all_map, all_more}
use Rattle.reaudit.specs.Marks.{or_marked, is_marked, AreMarked}

pub set_past : (marks : List Bool) (i : ℕ) → length marks ≤ i → marks ≡ slice_set marks i true
set_past marks i past = sym (set_out marks i true past)

marked_now : (marks : List Bool) (i : ℕ) → or_marked (slice_get (slice_set marks i true) i) ≡ true
marked_now [] i = refl
marked_now (m ∷ marks) zero = refl
marked_now (m ∷ marks) (suc i) = marked_now marks i

marked_still : (marks : List Bool) (i j : ℕ) → or_marked (slice_get marks j) ≡ true → or_marked (slice_get (slice_set marks i true) j) ≡ true
marked_still [] i j h = h
marked_still (m ∷ marks) zero zero h = refl
marked_still (m ∷ marks) zero (suc j) h = h
marked_still (m ∷ marks) (suc i) zero h = h
marked_still (m ∷ marks) (suc i) (suc j) h = marked_still marks i j h

-- one row more
pub mark_more : (marks now : List Bool) (rows : List OutRow) (i : ℕ) (d : OutRow) → i < length rows → AreMarked marks (take i rows) → now ≡ slice_set marks (get_or rows i d).node.0 true → AreMarked now (take (i + 1) rows)
mark_more marks now rows i d within so_far is =
    let row = get_or rows i d in
    let more : List Bool = slice_set marks row.node.0 true in
    let still = all_map {P = λ (r : OutRow). is_marked marks r.node ≡ true} {Q = λ (r : OutRow). is_marked more r.node ≡ true} (λ r h. marked_still marks row.node.0 r.node.0 h) (take i rows) so_far in
    let all = all_more (λ (r : OutRow). is_marked more r.node ≡ true) (take i rows) row still (marked_now marks row.node.0) in
    subst (λ ms. AreMarked ms (take (i + 1) rows)) (sym is) (subst (AreMarked more) (sym (take_more rows i d within)) all)

-- those of some of the rows
pub marked_take : (marks : List Bool) (i : ℕ) (rows : List OutRow) → AreMarked marks rows → AreMarked marks (take i rows)
marked_take marks zero rows all = tt
marked_take marks (suc i) [] all = tt
marked_take marks (suc i) (row ∷ rows) all = (all.0, marked_take marks i rows all.1)

pub marked_drop : (marks : List Bool) (i : ℕ) (rows : List OutRow) → AreMarked marks rows → AreMarked marks (drop i rows)
marked_drop marks zero rows all = all
marked_drop marks (suc i) [] all = tt
marked_drop marks (suc i) (row ∷ rows) all = marked_drop marks i rows all.1

-- the node of the row at a place
pub marked_at : {X : Type 0} (marks : List Bool) (g : X → Option OutRow) (xs : List X) (i : ℕ) (row : OutRow) → AreMarked marks (filter_map g xs) → slice_get (map g xs) i ≡ Some (Some row) → is_marked marks row.node ≡ true
marked_at marks g [] i row all e = cc
marked_at {X} marks g (x ∷ xs) zero row all e = here (g x) all e
  where
    here : (o : Option OutRow) → AreMarked marks (cons_option o (filter_map g xs)) → Some o ≡ Some (Some row) → is_marked marks row.node ≡ true
    here None all e = cc
    here (Some r) all e = let same : r ≡ row = cc in ap (λ (r : OutRow). is_marked marks r.node) (sym same) ∙ all.0
marked_at {X} marks g (x ∷ xs) (suc i) row all e = marked_at marks g xs i row (later (g x) all) e
  where
    later : (o : Option OutRow) → AreMarked marks (cons_option o (filter_map g xs)) → AreMarked marks (filter_map g xs)
    later None all = all
    later (Some r) all = all.1
