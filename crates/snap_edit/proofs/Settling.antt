-- Edits tried, and carried out one after another.
use Rattle.std.proofs.Common.{◌≡◌, ℕ, ◌+◌, List, [], ◌∷◌, ◌++◌, length, Option, Some, None, Result, Ok, Err, IfOk, IfErr, refl, sym, ◌∙◌, ap, subst, arith, add-zero}
use Rattle.std.specs.Option.{option_map_or}
use Rattle.std.specs.Result.{IsErrAnd}
use Rattle.snap_tree.specs.declared.row.Row.{Row}
use Rattle.snap_tree.specs.declared.fault.TreeFault.{TreeFault}
use Rattle.snap_tree.specs.Trees.{Trees, rows_of}
use Rattle.snap_tree.specs.Grown.{grown}
use Rattle.snap_tree.specs.Faults.{tree_fault}
use Rattle.snap_tree.specs.Well.{AreApart}
use Rattle.snap_tree.proofs.Growth.{rows_of_grown}
use Rattle.snap_tree.proofs.Wellness.{well_from_sound}
use Rattle.snap_tree.proofs.Naming.{regrown}
use Rattle.snap_edit.specs.declared.edit.Edit.{Edit}
use Rattle.snap_edit.specs.declared.fault.EditKind.{EditKind}
use Rattle.snap_edit.specs.declared.fault.EditKind.TheVariants.{Tree}
use Rattle.snap_edit.specs.declared.fault.EditFault.{EditFault}
use Rattle.snap_edit.specs.declared.fault.EditFault.TheVariants.{At}
use Rattle.snap_edit.specs.declared.fault.EditFault.TheVariants as fault
use Rattle.snap_edit.specs.declared.fault.EditRefusal.{EditRefusal}
use Rattle.snap_edit.specs.declared.fault.EditRefusal.TheVariants.{Kind, OutOfMemory}
use Rattle.snap_edit.specs.Edits.{settled, effect, then_settled, edited, followed, edited_from, continued, Refuses}
use Rattle.snap_edit.specs.Made.{Makes, Declines, fault_at, BreaksAt}

-- the trees of an answer are what its rows grow to, where the rows have no fault
again : (rows : List Row) (t : Trees) → Makes rows (Ok t) → tree_fault rows ≡ None → grown rows ≡ t
again rows t m sound =
    let apart : AreApart (rows_of t) =
    subst AreApart (rows_of_grown rows ∙ sym m.0) (well_from_sound rows sound).apart
    in
    ap grown (sym m.0) ∙ regrown t m.1 apart

pub settled_by :
    {o : Option TreeFault} (t : Trees)
    → tree_fault (rows_of t) ≡ o → settled t ≡ option_map_or (λ fault. Err (Tree fault)) o (Ok t)
unfolding settled
settled_by t e = ap (λ o. option_map_or (λ fault. Err (Tree fault)) o (Ok t)) e

pub settles :
    (rows : List Row) (answer : Result Trees EditKind)
    → Makes rows answer → tree_fault rows ≡ None → then_settled answer ≡ Ok (grown rows)
settles rows (Err kind) m sound = absurd m
settles rows (Ok t) m sound = settled_by t (ap tree_fault m.0 ∙ sound) ∙ ap Ok (sym (again rows t m sound))

pub breaks :
    (rows : List Row) (answer : Result Trees EditKind) (f : TreeFault)
    → Makes rows answer → tree_fault rows ≡ Some f → then_settled answer ≡ Err (Tree f)
breaks rows (Err kind) f m e = absurd m
breaks rows (Ok t) f m e = settled_by t (ap tree_fault m.0 ∙ e)

pub declined : (f : EditRefusal) (answer : Result Trees EditKind) → Declines f answer → Declines f (then_settled answer)
declined (Kind kind) answer d = ap then_settled d
declined OutOfMemory answer d = tt

-- ---- one after another

pub refused_at :
    (index : ℕ) (f : EditRefusal) (e : Edit) (edits : List Edit) (t : Trees)
    → Declines f (edited t e) → Refuses (fault_at index f) (edited_from index (e ∷ edits) t)
refused_at index (Kind kind) e edits t d = ap (followed index (edited_from (index + 1) edits)) d
refused_at index OutOfMemory e edits t d = tt

append_by :
    (index : ℕ) (xs ys : List Edit) (r : Result Trees EditKind)
    → ((t : Trees) → edited_from (index + 1) (xs ++ ys) t ≡ continued (index + 1 + length xs) ys (edited_from (index + 1) xs t))
    → followed index (edited_from (index + 1) (xs ++ ys)) r
    ≡ continued (index + 1 + length xs) ys (followed index (edited_from (index + 1) xs) r)
append_by index xs ys (Err kind) h = refl
append_by index xs ys (Ok t) h = h t

pub edited_append :
    (index : ℕ) (xs ys : List Edit) (t : Trees)
    → edited_from index (xs ++ ys) t ≡ continued (index + length xs) ys (edited_from index xs t)
edited_append index [] ys t = ap (λ i. edited_from i ys t) (sym (add-zero index))
edited_append index (e ∷ xs) ys t =
    let sums : index + 1 + length xs ≡ index + length (e ∷ xs) = omega arith in
    append_by index xs ys (edited t e) (λ t'. edited_append (index + 1) xs ys t')
    ∙ ap (λ i. continued i ys (edited_from index (e ∷ xs) t)) sums

-- what an earlier edit's fault says of the whole list
pub refused_earlier :
    (f : EditFault) (xs ys : List Edit) (t : Trees)
    → Refuses f (edited_from 0 xs t) → Refuses f (edited_from 0 (xs ++ ys) t)
refused_earlier (At index kind) xs ys t h = edited_append 0 xs ys t ∙ ap (continued (0 + length xs) ys) h
refused_earlier fault.OutOfMemory xs ys t h = tt

-- what the last edit says of it, where the page's rows went through the others
pub at_last :
    {rows copies : List Row} {t : Trees} (xs : List Edit) (e : Edit) (new : List Row)
    → copies ≡ rows → grown rows ≡ t → edited_from 0 xs (grown copies) ≡ Ok (grown new)
    → edited_from 0 (xs ++ e ∷ []) t ≡ edited_from (length xs) (e ∷ []) (grown new)
at_last {t = t} xs e new same is h =
    let all : edited_from 0 xs t ≡ Ok (grown new) = ap (edited_from 0 xs) (sym (ap grown same ∙ is)) ∙ h in
    let index : 0 + length xs ≡ length xs = omega arith in
    edited_append 0 xs (e ∷ []) t ∙ ap (continued (0 + length xs) (e ∷ [])) all
    ∙ ap (λ i. edited_from i (e ∷ []) (grown new)) index

refused_by :
    (index : ℕ) (f : EditFault) (rows : List Row) (answer : Result Trees EditKind) (o : Option TreeFault)
    → Makes rows answer → tree_fault rows ≡ o → BreaksAt index f o
    → Refuses f (followed index (edited_from (index + 1) []) (then_settled answer))
refused_by index (At i kind) rows answer (Some g) m e b =
    ap (followed index (edited_from (index + 1) [])) (breaks rows answer g m e) ∙ ap Err (sym b)
refused_by index (At i kind) rows answer None m e b = absurd b
refused_by index fault.OutOfMemory rows answer o m e b = tt

pub refused_last :
    (index : ℕ) (f : EditFault) (rows : List Row) (e : Edit) (t : Trees)
    → Makes rows (effect t e) → BreaksAt index f (tree_fault rows) → Refuses f (edited_from index (e ∷ []) t)
refused_last index f rows e t m b = refused_by index f rows (effect t e) (tree_fault rows) m refl b

pub settled_last :
    (index : ℕ) (rows : List Row) (e : Edit) (t : Trees)
    → Makes rows (effect t e) → tree_fault rows ≡ None → edited_from index (e ∷ []) t ≡ Ok (grown rows)
settled_last index rows e t m sound =
    ap (followed index (edited_from (index + 1) [])) (settles rows (effect t e) m sound)

-- ---- facts of an answer, one from another

pub ok_both :
    {T E : Type 0} (r : Result T E) (P Q R : T → Type 0)
    → IfOk r P → IfOk r Q → ((x : T) → P x → Q x → R x) → IfOk r R
ok_both (Ok x) P Q R p q f = f x p q
ok_both (Err e) P Q R p q f = tt

-- a fault that is passed on
pub passed_on : {T E : Type 0} (r : Result T E) (f : E) (P : E → Type 0) → IsErrAnd r (λ g. g ≡ f) → P f → IfErr r P
passed_on (Ok x) f P e p = tt
passed_on (Err g) f P e p = subst P (sym e) p
