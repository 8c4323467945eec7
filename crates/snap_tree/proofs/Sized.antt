-- The sizes of subtrees, found from the last row to the first.
use Rattle.std.proofs.Common.{subst, ◌≡◌, ℕ, suc, ◌+◌, ◌-◌, ◌<◌, ◌≤◌, List, [], ◌∷◌, ◌++◌, length, reverse, drop, get_or, Bool, true, false, refl, sym, ◌∙◌, ap, arith, append_assoc, add-zero}
use Rattle.std.proofs.lemmas.List.{reverse-append, drop_more}
use Rattle.snap_tree.specs.declared.row.Row.{Row}
use Rattle.snap_tree.specs.declared.sizes.Waiting.{Waiting}
use Rattle.snap_tree.specs.Trees.{Trees, empty, tree, count, sizes_of, beside}
use Rattle.snap_tree.specs.Grown.{names, taken, left, grown}
use Rattle.snap_tree.specs.Sizing.{waiting_from, end_of, left_roots}
use Rattle.snap_tree.proofs.Growth.{taken-beside-left}

pub sizes_of-beside : (a b : Trees) → sizes_of (beside a b) ≡ sizes_of a ++ sizes_of b
sizes_of-beside empty b = refl
sizes_of-beside (tree r kids after) b =
    ap (λ ss. suc (count kids) ∷ (sizes_of kids ++ ss)) (sizes_of-beside after b) ∙ ap (λ ss. suc (count kids) ∷ ss) (sym (append_assoc (sizes_of kids) (sizes_of after) (sizes_of b)))

pub end_of-waiting : (r : Row) (from : ℕ) (t : Trees) → end_of r from (waiting_from from t) ≡ from + count (taken r t)
end_of-waiting r from empty = sym (add-zero from)
end_of-waiting r from (tree x kids after) = by_name (names x r) refl (end_of-waiting r (from + suc (count kids)) after)
  where
    by_name : (b : Bool) → names x r ≡ b → end_of r (from + suc (count kids)) (waiting_from (from + suc (count kids)) after) ≡ from + suc (count kids) + count (taken r after) → end_of r from (waiting_from from (tree x kids after)) ≡ from + count (taken r (tree x kids after))
    by_name true e h = rw e (h ∙ omega arith)
    by_name false e h = rw e (sym (add-zero from))

pub left_roots-waiting : (r : Row) (from : ℕ) (t : Trees) → left_roots r (waiting_from from t) ≡ waiting_from (from + count (taken r t)) (left r t)
left_roots-waiting r from empty = refl
left_roots-waiting r from (tree x kids after) = by_name (names x r) refl (left_roots-waiting r (from + suc (count kids)) after)
  where
    by_name : (b : Bool) → names x r ≡ b → left_roots r (waiting_from (from + suc (count kids)) after) ≡ waiting_from (from + suc (count kids) + count (taken r after)) (left r after) → left_roots r (waiting_from from (tree x kids after)) ≡ waiting_from (from + count (taken r (tree x kids after))) (left r (tree x kids after))
    by_name true e h = let sums : from + suc (count kids) + count (taken r after) ≡ from + suc (count kids + count (taken r after)) = omega arith in rw e (h ∙ ap (λ n. waiting_from n (left r after)) sums)
    by_name false e h = rw (e, add-zero) refl

-- the rows from a place on have been grown: their trees wait, and their sizes are known
pub record HasSized (waiting : List Waiting) (sizes : List ℕ) (place : ℕ) (rows : List Row) : Type 0 where
  pub waits : reverse waiting ≡ waiting_from place (grown rows)
  pub sized : reverse sizes ≡ sizes_of (grown rows)

pub sized_more : (waiting later : List Waiting) (sizes : List ℕ) (place end : ℕ) (r : Row) (rows : List Row) → HasSized waiting sizes (place + 1) rows → end ≡ end_of r (place + 1) (reverse waiting) → reverse later ≡ left_roots r (reverse waiting)
    → (place + 1 ≤ end) × HasSized (later ++ record { parent = r.parent; end = end } ∷ []) (sizes ++ (end - place) ∷ []) place (r ∷ rows)
sized_more waiting later sizes place end r rows h e l =
    let k = taken r (grown rows) in
    let a = left r (grown rows) in
    let ends : end ≡ place + suc (count k) = e ∙ ap (end_of r (place + 1)) h.waits ∙ end_of-waiting r (place + 1) (grown rows) ∙ omega arith in
    let size : end - place ≡ suc (count k) = omega arith in
    let begins : place + 1 + count k ≡ place + suc (count k) = omega arith in (
      omega arith,
      record {
        waits = reverse-append later _ ∙ ap (λ n. record { parent = r.parent; end = n } ∷ reverse later) ends ∙ ap (λ ws. record { parent = r.parent; end = place + suc (count k) } ∷ ws) (l ∙ ap (left_roots r) h.waits ∙ left_roots-waiting r (place + 1) (grown rows) ∙ ap (λ n. waiting_from n a) begins);
        sized = reverse-append sizes _ ∙ ap (λ n. n ∷ reverse sizes) size ∙ ap (λ ss. suc (count k) ∷ ss) (h.sized ∙ ap sizes_of (sym (taken-beside-left r (grown rows))) ∙ sizes_of-beside k a);
      },
    )

-- one turn of the pass: from the place after a row to the row's
pub turn : (waiting later : List Waiting) (sizes : List ℕ) (at end : ℕ) (rows : List Row) (r : Row) → 0 < at → (at ≤ length rows) × HasSized waiting sizes at (drop at rows) → r ≡ get_or rows (at - 1) r → end ≡ end_of r (at - 1 + 1) (reverse waiting) → reverse later ≡ left_roots r (reverse waiting)
    → (at - 1 + 1 ≤ end) × HasSized (later ++ record { parent = r.parent; end = end } ∷ []) (sizes ++ (end - (at - 1)) ∷ []) (at - 1) (drop (at - 1) rows)
turn waiting later sizes at end rows r positive h is e l =
    let more : at - 1 + 1 ≡ at = omega arith in
    let row : drop (at - 1) rows ≡ r ∷ drop at rows = drop_more rows (at - 1) r (omega arith) ∙ ap (λ x. x ∷ drop (at - 1 + 1) rows) (sym is) ∙ ap (λ n. r ∷ drop n rows) more in
    let before : HasSized waiting sizes (at - 1 + 1) (drop at rows) = subst (λ n. HasSized waiting sizes n (drop at rows)) (sym more) h.1 in
    let next = sized_more waiting later sizes (at - 1) end r (drop at rows) before e l in
    (next.0, subst (HasSized (later ++ record { parent = r.parent; end = end } ∷ []) (sizes ++ (end - (at - 1)) ∷ []) (at - 1)) (sym row) next.1)
