-- Cases with one more after them, and whether their ids are new.
use Rattle.std.proofs.Common.{◌≡◌, Bool, true, false, ◌&&◌, List, [], ◌∷◌, ◌++◌, refl, sym, ap, ◌∙◌, append_assoc, append-nil}
use Rattle.case_run.specs.declared.case.Case.{Case}
use Rattle.case_run.specs.Cases.{is_new}
use Rattle.case_run.specs.Apart.{all_new}

and_true : (b : Bool) → (b && true) ≡ b
and_true true = refl
and_true false = refl

and_false : (b : Bool) → (b && false) ≡ false
and_false true = refl
and_false false = refl

and_and : (a b c : Bool) → (a && (b && c)) ≡ ((a && b) && c)
and_and true b c = refl
and_and false b c = refl

new_last : (earlier cases : List Case) (c : Case) → all_new earlier (cases ++ c ∷ []) ≡ (all_new earlier cases && is_new (earlier ++ cases) c.id)
new_last earlier [] c = and_true (is_new earlier c.id) ∙ sym (ap (λ e. is_new e c.id) (append-nil earlier))
new_last earlier (d ∷ cases) c =
    ap (λ b. is_new earlier d.id && b) (new_last (earlier ++ d ∷ []) cases c ∙ ap (λ e. all_new (earlier ++ d ∷ []) cases && is_new e c.id) (append_assoc earlier (d ∷ []) cases))
    ∙ and_and (is_new earlier d.id) (all_new (earlier ++ d ∷ []) cases) (is_new (earlier ++ d ∷ cases) c.id)

-- the last one is new, so the others tell
pub new_before : (all rest earlier : List Case) (c : Case) → rest ≡ earlier ++ c ∷ [] → is_new earlier c.id ≡ true → all_new [] rest ≡ all_new [] all → all_new [] earlier ≡ all_new [] all
new_before all rest earlier c is new same = sym (and_true (all_new [] earlier)) ∙ sym (ap (all_new []) is ∙ new_last [] earlier c ∙ ap (λ b. all_new [] earlier && b) new) ∙ same

-- the last one isn't
pub not_new : (all rest earlier : List Case) (c : Case) → rest ≡ earlier ++ c ∷ [] → is_new earlier c.id ≡ false → all_new [] rest ≡ all_new [] all → false ≡ all_new [] all
not_new all rest earlier c is taken same = sym (ap (all_new []) is ∙ new_last [] earlier c ∙ ap (λ b. all_new [] earlier && b) taken ∙ and_false (all_new [] earlier)) ∙ same
