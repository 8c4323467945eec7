-- What is noted of the ids of a table's cells.
use Rattle.std.proofs.Common.{◌≡◌, ◌&&◌, ◌||◌, not, cond, eqb, codes, ℕ, List, [], ◌∷◌, ◌++◌, length, Bool, true, false, Some, None, refl, sym, ap, ◌∙◌}
use Rattle.std.proofs.lemmas.List.Folds.{list_any-append}
use Rattle.std.specs.List.{list_any}
use Rattle.std.specs.Str.{bytes_eq}
use Rattle.snap_tree.specs.declared.row.NodeId.{NodeId}
use Rattle.snap_tree.specs.declared.row.Row.{Row}
use Rattle.snap_tree.specs.Rows.{has_number, is_html}
use Rattle.snap_tree.specs.Trees.{Trees, tree}
use Rattle.acc_tree.specs.declared.attributes.Attribute.TheVariants as attribute
use Rattle.acc_tree.specs.Seen.{attr}
use Rattle.rules_tables.specs.Bearers.{Bearers, bearer_of, has_other, HasPut}
use Rattle.rules_tables.specs.HeadersReferToCells.{is_other_named, own_cells, refers_inside}
use Rattle.rules_tables.specs.TableIds.{HasId, HasCell, HasIds}
use Rattle.rules_tables.specs.TableRows.{is_cell}
use Rattle.rules_tables.proofs.Referring.{key_of_id, key_of_none}

swapped : (a b : Bool) → (a && b) ≡ (b && a)
swapped true true = refl
swapped true false = refl
swapped false true = refl
swapped false false = refl

nothing : (b n : Bool) → b ≡ (b || (n && false))
nothing true n = refl
nothing false true = refl
nothing false false = refl

pub id_put : (old new : Bearers) (row : Row) (own : List ℕ) → Some own ≡ attr attribute.Id row → eqb (length own) 0 ≡ false → HasPut old new own row.id → HasId old new row
id_put old new row own is filled put w m =
    let other = not (has_number m row) in
    put w m ∙ ap (λ b. has_other (bearer_of old w) m || b) (swapped (bytes_eq w own) other)
    ∙ ap (λ b. has_other (bearer_of old w) m || (other && b)) (ap (λ b. not b && bytes_eq w own) (sym filled) ∙ key_of_id w own row is)

pub id_blank : (old : Bearers) (row : Row) (own : List ℕ) → Some own ≡ attr attribute.Id row → eqb (length own) 0 ≡ true → HasId old old row
id_blank old row own is empty w m =
    let other = not (has_number m row) in
    nothing (has_other (bearer_of old w) m) other ∙ ap (λ b. has_other (bearer_of old w) m || (other && b)) (ap (λ b. not b && bytes_eq w own) (sym empty) ∙ key_of_id w own row is)

pub id_none : (old : Bearers) (row : Row) → None ≡ attr attribute.Id row → HasId old old row
id_none old row is w m =
    let other = not (has_number m row) in
    nothing (has_other (bearer_of old w) m) other ∙ ap (λ b. has_other (bearer_of old w) m || (other && b)) (key_of_none w row is)

-- ---- the cells of a table

in_parts : (f : Row → Bool) (row : Row) (cell table : Bool) (inner later : List Row)
    → list_any f ((cond cell (row ∷ []) [] ++ cond table [] inner) ++ later) ≡ (((cell && f row) || (not table && list_any f inner)) || list_any f later)
in_parts f row cell table inner later =
    list_any-append f (cond cell (row ∷ []) [] ++ cond table [] inner) later ∙ ap (λ b. b || list_any f later) (list_any-append f (cond cell (row ∷ []) []) (cond table [] inner) ∙ both cell table)
  where
    or_false : (b : Bool) → (b || false) ≡ b
    or_false true = refl
    or_false false = refl

    inside : (t : Bool) → list_any f (cond t [] inner) ≡ (not t && list_any f inner)
    inside true = refl
    inside false = refl

    both : (c t : Bool) → (list_any f (cond c (row ∷ []) []) || list_any f (cond t [] inner)) ≡ ((c && f row) || (not t && list_any f inner))
    both true t = ap (λ b. (f row || false) || b) (inside t) ∙ ap (λ b. b || (not t && list_any f inner)) (or_false (f row))
    both false t = inside t

pub inside_parts : (row : Row) (kids after : Trees) (m : NodeId) (w : List ℕ)
    → refers_inside (tree row kids after) m w ≡ (((is_cell row && is_other_named m w row) || (not (is_html (codes "table") row) && refers_inside kids m w)) || refers_inside after m w)
inside_parts row kids after m w = in_parts (is_other_named m w) row (is_cell row) (is_html (codes "table") row) (own_cells kids) (own_cells after)

regrouped : (h c k a : Bool) → (((h || c) || k) || a) ≡ (h || ((c || k) || a))
regrouped true c k a = refl
regrouped false c k a = refl

regrouped_beside : (h c a : Bool) → ((h || c) || a) ≡ (h || ((c || false) || a))
regrouped_beside true c a = refl
regrouped_beside false true a = refl
regrouped_beside false false a = refl

-- a row's id, and those below it
pub ids_more : (old mid new : Bearers) (row : Row) (kids after : Trees) → HasCell old mid row → HasIds mid new kids → is_html (codes "table") row ≡ false → (w : List ℕ) (m : NodeId)
    → (has_other (bearer_of new w) m || refers_inside after m w) ≡ (has_other (bearer_of old w) m || refers_inside (tree row kids after) m w)
ids_more old mid new row kids after cell ids table w m =
    let h = has_other (bearer_of old w) m in
    let c = is_cell row && is_other_named m w row in
    ap (λ b. b || refers_inside after m w) (ids w m ∙ ap (λ b. b || refers_inside kids m w) (cell w m))
    ∙ regrouped h c (refers_inside kids m w) (refers_inside after m w)
    ∙ ap (λ b. h || ((c || (not b && refers_inside kids m w)) || refers_inside after m w)) (sym table)
    ∙ ap (λ b. h || b) (sym (inside_parts row kids after m w))

-- a row's id, where what is below it belongs to another table
pub ids_beside : (old new : Bearers) (row : Row) (kids after : Trees) → HasCell old new row → is_html (codes "table") row ≡ true → (w : List ℕ) (m : NodeId)
    → (has_other (bearer_of new w) m || refers_inside after m w) ≡ (has_other (bearer_of old w) m || refers_inside (tree row kids after) m w)
ids_beside old new row kids after cell table w m =
    let h = has_other (bearer_of old w) m in
    let c = is_cell row && is_other_named m w row in
    ap (λ b. b || refers_inside after m w) (cell w m)
    ∙ regrouped_beside h c (refers_inside after m w)
    ∙ ap (λ b. h || ((c || (not b && refers_inside kids m w)) || refers_inside after m w)) (sym table)
    ∙ ap (λ b. h || b) (sym (inside_parts row kids after m w))
