-- Cases read one after another, as a loop does.
use Rattle.std.proofs.Common.{◌≡◌, ℕ, suc, ◌+◌, ◌<◌, add-one, subst, drop, get_or, List, [], ◌∷◌, ◌++◌, append_assoc, length, Result, Ok, Err, refl, sym, ap, ◌∙◌}
use Rattle.std.proofs.Math.Seq.{drop-cons}
use Rattle.serde_json.specs.Data.{Data, Items, item}
use Rattle.serde_json.specs.View.{view, items_view}
use Rattle.serde_json.specs.declared.value.Value.{Value}
use Rattle.rule_core.specs.declared.info.RuleInfo.{RuleInfo}
use Rattle.snap_json.specs.Pages.{next_place}
use Rattle.case_run.specs.declared.case.Case.{Case}
use Rattle.case_run.specs.declared.fault.CasesFault.{CasesFault}
use Rattle.case_run.specs.Faults.{◌>>=◌}
use Rattle.case_run.specs.Cases.{many, case_at, cases_from}

-- what was read before, and what is still read
abbrev pub added : {A : Type 0} → List A → Result (List A) CasesFault → Result (List A) CasesFault
added front rest = rest >>= λ others. Ok (front ++ others)

pub many_view : (vs : List Value) → many (items_view vs) ≡ length vs
many_view [] = refl
many_view (v ∷ vs) = ap suc (many_view vs)

-- one more is read
added_step : {A : Type 0} (front : List A) (x : A) (rest : Result (List A) CasesFault) → added front (rest >>= λ others. Ok (x ∷ others)) ≡ added (front ++ x ∷ []) rest
added_step front x (Ok others) = ap Ok (sym (append_assoc front (x ∷ []) others))
added_step front x (Err fault) = refl

-- a case more is read after those that were found
one_more : (infos : List RuleInfo) (found : List Case) (place : ℕ) (value : Data) (items : Items) (c : Case) (all : Result (List Case) CasesFault)
    → added found (cases_from infos found place (item value items)) ≡ all → case_at infos found place value ≡ Ok c
    → added (found ++ c ∷ []) (cases_from infos (found ++ c ∷ []) (next_place place) items) ≡ all
one_more infos found place value items c all before meant =
    let then = λ (first : Case). cases_from infos (found ++ first ∷ []) (next_place place) items >>= λ rest. Ok (first ∷ rest) in
    sym (added_step found c (cases_from infos (found ++ c ∷ []) (next_place place) items)) ∙ sym (ap (λ r. added found (r >>= then)) meant) ∙ before

-- the same in a loop over a list's values
pub cases_turn : (infos : List RuleInfo) (values : List Value) (i : ℕ) (v : Value) (found now : List Case) (place next : ℕ) (c : Case) (all : Result (List Case) CasesFault)
    → i < length values → v ≡ get_or values i v → now ≡ found ++ c ∷ [] → next ≡ next_place place
    → added found (cases_from infos found place (items_view (drop i values))) ≡ all → case_at infos found place (view v) ≡ Ok c
    → added now (cases_from infos now next (items_view (drop (i + 1) values))) ≡ all
cases_turn infos values i v found now place next c all within is now_is next_is before meant =
    let later = drop (i + 1) values in
    let ahead : drop i values ≡ v ∷ later = drop-cons values i v within ∙ ap (λ w. w ∷ drop (suc i) values) (sym is) ∙ ap (λ n. v ∷ drop n values) (sym (add-one i)) in
    let here : added found (cases_from infos found place (item (view v) (items_view later))) ≡ all =
    sym (ap (λ rest. added found (cases_from infos found place (items_view rest))) ahead) ∙ before
    in
    let At = λ (front : List Case) (n : ℕ). added front (cases_from infos front n (items_view later)) ≡ all in
    subst (λ front. At front next) (sym now_is) (subst (λ n. At (found ++ c ∷ []) n) (sym next_is) (one_more infos found place (view v) (items_view later) c all here meant))
