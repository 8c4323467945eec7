-- Rows taken alone: the faults of those below a text, and the trees of those without a fault.
use Rattle.std.proofs.Common.{◌≡◌, ◌==◌, List, [], ◌∷◌, length, Bool, true, false, ◌||◌, nat_lt, Some, None, if◌then◌else◌, refl, sym, ◌∙◌, ap, subst}
use Rattle.std.specs.Option.{option_or, is_some}
use Rattle.std.specs.List.{list_any}
use Rattle.snap_tree.specs.declared.row.NodeId.{NodeId}
use Rattle.snap_tree.specs.declared.row.Row.{Row}
use Rattle.snap_tree.specs.declared.fault.TreeFault.{TreeFault}
use Rattle.snap_tree.specs.declared.fault.TreeFault.TheVariants.{DoubleNumber, ParentUnknownOrNotOpen, TextHasKids, TooMany}
use Rattle.snap_tree.specs.Trees.{Trees, empty, tree}
use Rattle.snap_tree.specs.Grown.{names, grown}
use Rattle.snap_tree.specs.Rows.{has_number, is_text, own_fault}
use Rattle.snap_tree.specs.Faults.{place_fault, row_fault, rows_fault, tree_fault}
use Rattle.snap_tree.specs.Well.{HasRoot}
use Rattle.snap_tree.specs.Naming.{AreNamed}
use Rattle.snap_tree.proofs.Entering.{row_fault_double, row_fault_new}
use Rattle.snap_tree.proofs.Wellness.{same_number, none_or, well_from_sound}
use Rattle.snap_tree.proofs.Naming.{named_well}
use Rattle.snap_edit.specs.Trees.{hung}
use Rattle.snap_edit.specs.Edits.{text_fault, alone_fault}
use Rattle.snap_tree.specs.declared.build.TheConstants.{MOST_NODES}

-- ---- below a text

-- whether one row has the number of another
any_one : (r x : Row) (b : Bool) → (x.id.0 == r.id.0) ≡ b → list_any (has_number x.id) (r ∷ []) ≡ (b || false)
any_one r x b e = ap (λ b. b || false) (same_number r.id.0 x.id.0 ∙ e)

-- the fault of the row that follows one comes before those of later rows
first_below :
    (r x : Row) (rows : List Row) (f : TreeFault)
    → row_fault (r ∷ []) x ≡ Some f → rows_fault (r ∷ []) (x ∷ rows) ≡ Some f
first_below r x rows f e = ap (λ o. option_or o (rows_fault (r ∷ x ∷ []) rows)) e

double_below :
    (r x : Row) (rows : List Row)
    → (x.id.0 == r.id.0) ≡ true → rows_fault (r ∷ []) (x ∷ rows) ≡ Some (DoubleNumber x.id)
double_below r x rows e = first_below r x rows (DoubleNumber x.id) (row_fault_double (r ∷ []) x (any_one r x true e))

pub child_below :
    (r x : Row) (rows : List Row)
    → is_text r ≡ true → names x r ≡ true → (x.id.0 == r.id.0) ≡ false
    → rows_fault (r ∷ []) (x ∷ rows) ≡ Some (TextHasKids x.id)
unfolding place_fault
child_below r x rows t n e =
    first_below r x rows (TextHasKids x.id) (row_fault_new (r ∷ []) x (any_one r x false e) ∙ rw (n, t) refl)

pub stray_below :
    (r x : Row) (rows : List Row)
    → names x r ≡ false → (x.id.0 == r.id.0) ≡ false
    → rows_fault (r ∷ []) (x ∷ rows) ≡ Some (ParentUnknownOrNotOpen x.id)
unfolding place_fault
stray_below r x rows n e =
    first_below r x rows (ParentUnknownOrNotOpen x.id) (row_fault_new (r ∷ []) x (any_one r x false e) ∙ rw n refl)

-- a text alone is all that has no fault
none_below : (r : Row) (rows : List Row) → is_text r ≡ true → rows_fault (r ∷ []) rows ≡ None → rows ≡ []
none_below r [] t h = refl
none_below r (x ∷ rows) t h = by_test (x.id.0 == r.id.0) (names x r) refl refl
  where
    by_test : (b c : Bool) → (x.id.0 == r.id.0) ≡ b → names x r ≡ c → (x ∷ rows) ≡ []
    by_test true c e n = let no : Some (DoubleNumber x.id) ≡ None = sym (double_below r x rows e) ∙ h in cc
    by_test false true e n = let no : Some (TextHasKids x.id) ≡ None = sym (child_below r x rows t n e) ∙ h in cc
    by_test false false e n = let no : Some (ParentUnknownOrNotOpen x.id) ≡ None = sym (stray_below r x rows n e) ∙ h in cc

-- ---- the trees of rows without a fault

text_alone :
    (r : Row) (rows : List Row) (a b : Bool)
    → is_text r ≡ true → nat_lt MOST_NODES (length (r ∷ rows)) ≡ a → is_some r.parent ≡ b → text_fault r rows ≡ None
    → rows ≡ []
text_alone r rows true b t ea eb h = let no : Some TooMany ≡ None = rw ea at h in cc
text_alone r rows false true t ea eb h = let no : Some (ParentUnknownOrNotOpen r.id) ≡ None = rw (ea, eb) at h in cc
text_alone r rows false false t ea eb h =
    let rest : option_or (own_fault r) (rows_fault (r ∷ []) rows) ≡ None = rw (ea, eb) at h in
    none_below r rows t (none_or (own_fault r) (rows_fault (r ∷ []) rows) rest).1

-- one tree, hung below a node, has its nodes name the ones above
hung_one : (p : NodeId) (t : Trees) → HasRoot t → AreNamed None t → AreNamed (Some p) (hung p t)
hung_one p empty h m = absurd h
hung_one p (tree r kids empty) h m = (refl, (m.1.0, tt))
hung_one p (tree r kids (tree y below after)) h m = absurd h

hung_sound : (p : NodeId) (rows : List Row) → tree_fault rows ≡ None → AreNamed (Some p) (hung p (grown rows))
hung_sound p rows h =
    let well = well_from_sound rows h in
    hung_one p (grown rows) well.rooted (named_well (grown rows) well)

hung_by :
    (p : NodeId) (r : Row) (rows : List Row) (b : Bool)
    → is_text r ≡ b → (if b then text_fault r rows else tree_fault (r ∷ rows)) ≡ None
    → AreNamed (Some p) (hung p (grown (r ∷ rows)))
hung_by p r rows true t h =
    let none : rows ≡ [] = text_alone r rows (nat_lt MOST_NODES (length (r ∷ rows))) (is_some r.parent) t refl refl h in
    subst (λ rs. AreNamed (Some p) (hung p (grown (r ∷ rs)))) (sym none) (refl, (tt, tt))
hung_by p r rows false t h = hung_sound p (r ∷ rows) h

pub hung_alone : (p : NodeId) (rows : List Row) → alone_fault rows ≡ None → AreNamed (Some p) (hung p (grown rows))
unfolding alone_fault
hung_alone p [] h = tt
hung_alone p (r ∷ rows) h = hung_by p r rows (is_text r) refl h
