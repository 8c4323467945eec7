-- Trees in which each node names the one above it are what their rows grow to.
use Rattle.std.proofs.Common.{◌≡◌, ◌==◌, List, [], ◌∷◌, ◌++◌, true, false, ◌||◌, Option, Some, None, refl, sym, ◌∙◌, ap, subst, arith}
use Rattle.std.proofs.lemmas.List.Folds.{list_any-append}
use Rattle.std.proofs.lemmas.Bool.{or_parts}
use Rattle.std.proofs.lemmas.Bool.Decides.{nat_tests}
use Rattle.std.specs.List.{list_any}
use Rattle.snap_tree.specs.declared.row.NodeId.{NodeId}
use Rattle.snap_tree.specs.declared.row.Row.{Row}
use Rattle.snap_tree.specs.Trees.{Trees, empty, tree, rows_of, beside}
use Rattle.snap_tree.specs.Grown.{names, is_number, taken, left, grown}
use Rattle.snap_tree.specs.Rows.{has_number}
use Rattle.snap_tree.specs.Spots.{NamesNone, number_of}
use Rattle.snap_tree.specs.Well.{EachPlaced, AreApart, IsWell}
use Rattle.snap_tree.specs.Naming.{AreNamed}
use Rattle.snap_tree.proofs.Climbing.{apart_append}
use Rattle.snap_tree.proofs.Spotting.{takes_beside, grown_beside}

-- none of the rows has this number, if it is one
abbrev IsAbsent : Option NodeId → List Row → Type 0
IsAbsent None rows = Unit {0}
IsAbsent (Some p) rows = list_any (has_number p) rows ≡ false

absent_parts : (parent : Option NodeId) (r : Row) (xs ys : List Row) → IsAbsent parent (r ∷ (xs ++ ys)) → IsAbsent parent (r ∷ []) × IsAbsent parent xs × IsAbsent parent ys
absent_parts None r xs ys h = (tt, tt, tt)
absent_parts (Some p) r xs ys h =
    let first = or_parts (has_number p r) (list_any (has_number p) (xs ++ ys)) h in
    let rest = or_parts (list_any (has_number p) xs) (list_any (has_number p) ys) (sym (list_any-append (has_number p) xs ys) ∙ first.1) in
    (ap (λ b. b || false) first.0, rest.0, rest.1)

-- a row with this parent names none of the rows
names_none : (y : Row) (parent : Option NodeId) (rows : List Row) → y.parent ≡ parent → IsAbsent parent rows → list_any (names y) rows ≡ false
names_none y parent [] e h = refl
names_none y None (x ∷ rows) e h = ap (λ o. is_number o x.id || list_any (names y) rows) e ∙ names_none y None rows e tt
names_none y (Some p) (x ∷ rows) e h =
    let both = or_parts (has_number p x) (list_any (has_number p) rows) h in
    let other : (p.0 == x.id.0) ≡ false = grind (arith, nat_tests, both.0) in
    ap (λ o. is_number o x.id || list_any (names y) rows) e ∙ ap (λ b. b || list_any (names y) rows) other ∙ names_none y (Some p) rows e both.1

root_names_none : (parent : Option NodeId) (t : Trees) (rows : List Row) → AreNamed parent t → IsAbsent parent rows → NamesNone t rows
root_names_none parent empty rows n h = tt
root_names_none parent (tree y b a) rows n h = names_none y parent rows n.0 h

-- a row takes the trees whose roots name it
pub takes_named : (r : Row) (t : Trees) → AreNamed (Some r.id) t → (taken r t ≡ t) × (left r t ≡ empty)
takes_named r empty n = (refl, refl)
takes_named r (tree x kids after) n =
    let same : names x r ≡ true = ap (λ o. is_number o r.id) n.0 ∙ grind (arith, nat_tests) in
    let rest = takes_named r after n.1.1 in
    (rw same (ap (tree x kids) rest.0), rw same rest.1)

-- below any parent whose number none of the rows has
regrown_below : (parent : Option NodeId) (t : Trees) → AreNamed parent t → IsAbsent parent (rows_of t) → AreApart (rows_of t) → grown (rows_of t) ≡ t
regrown_below parent empty n h a = refl
regrown_below parent (tree r kids after) n h a =
    let apart = apart_append (rows_of kids) (rows_of after) a.1 in
    let absent = absent_parts parent r (rows_of kids) (rows_of after) h in
    let own = or_parts (list_any (has_number r.id) (rows_of kids)) (list_any (has_number r.id) (rows_of after)) (sym (list_any-append (has_number r.id) (rows_of kids) (rows_of after)) ∙ a.0) in
    let below : grown (rows_of kids) ≡ kids = regrown_below (Some r.id) kids n.1.0 own.0 apart.0 in
    let later : grown (rows_of after) ≡ after = regrown_below parent after n.1.1 absent.2 apart.1 in
    let parts : grown (rows_of kids ++ rows_of after) ≡ beside kids after =
    grown_beside (rows_of kids) (rows_of after) (subst (λ t. NamesNone t (rows_of kids)) (sym later) (root_names_none parent after (rows_of kids) n.1.1 absent.1)) ∙ ap (λ t. beside t (grown (rows_of after))) below ∙ ap (beside kids) later
    in
    let takes = takes_beside r kids after (root_names_none parent after (r ∷ []) n.1.1 absent.0) in
    let own_kids = takes_named r kids n.1.0 in
    ap (λ t. tree r (taken r t) (left r t)) parts ∙ ap (λ t. tree r t (left r (beside kids after))) (takes.0 ∙ own_kids.0) ∙ ap (tree r kids) (takes.1 ∙ ap (λ t. beside t after) own_kids.1)

pub regrown : (t : Trees) → AreNamed None t → AreApart (rows_of t) → grown (rows_of t) ≡ t
regrown t n a = regrown_below None t n tt a

-- nodes that stand in their places name the ones above them
pub named_placed : (above : List Row) (t : Trees) → EachPlaced above t → AreNamed (number_of above) t
named_placed above empty p = tt
named_placed above (tree r kids after) p = (p.0.named, (named_placed (r ∷ above) kids p.1.0, named_placed above after p.1.1))

pub named_well : (t : Trees) → IsWell t → AreNamed None t
named_well t well = named_placed [] t well.placed
