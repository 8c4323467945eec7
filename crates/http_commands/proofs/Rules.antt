-- The rule that an id names is found by its number too.
use Rattle.std.proofs.Common.{◌≡◌, ℕ, ltb, cond, Bool, true, false, List, [], ◌∷◌, Some, refl, ap, ◌∙◌, eq-eqb, arith}
use Rattle.std.specs.Prelude.{IfSome}
use Rattle.std.specs.List.{find, list_all}
use Rattle.std.specs.Option.{option_map_or}
use Rattle.std.proofs.lemmas.Bool.{and_parts, ne_eqb, ltb-true}
use Rattle.rule_core.specs.declared.info.RuleNo.{RuleNo}
use Rattle.rule_core.specs.declared.info.RuleInfo.{RuleInfo}
use Rattle.rule_core.specs.Infos.{is_atomic, info_of, has_atomic, rise, is_orderly}
use Rattle.judged_rows.proofs.Anew.{orderly_rise}
use Rattle.http_routes.proofs.Chosen.{when, either}
use Rattle.http_commands.specs.Judging.{has_id, atomic_no, rule_named}
use Rattle.http_commands.proofs.Steps.{after_some, both_some}

-- what is found passes each test that all pass
found_passes : {A : Type 0} (p q : A → Bool) (xs : List A) → list_all q xs ≡ true → IfSome (find p xs) (λ x. q x ≡ true)
found_passes p q [] all = tt
found_passes p q (x ∷ xs) all =
    let parts = and_parts (q x) (list_all q xs) all in
    either (p x) (Some x) (find p xs) (λ y. q y ≡ true) parts.0 (found_passes p q xs parts.1)

-- a later rule isn't taken for this one
past_first : (i j : RuleInfo) (later : List RuleInfo) → info_of later j.no.0 ≡ Some j → ltb i.no.0 j.no.0 ≡ true → info_of (i ∷ later) j.no.0 ≡ Some j
past_first i j later found above =
    let over = ltb-true i.no.0 j.no.0 above in
    ap (λ b. cond b (Some i) (info_of later j.no.0)) (ne_eqb j.no.0 i.no.0 (λ same. omega arith)) ∙ found

found_by_number : (p : RuleInfo → Bool) (infos : List RuleInfo) → rise infos ≡ true → IfSome (find p infos) (λ i. info_of infos i.no.0 ≡ Some i)
found_by_number p [] up = tt
found_by_number p (i ∷ later) up =
    let parts = and_parts (list_all (λ j. ltb i.no.0 j.no.0) later) (rise later) up in
    either (p i) (Some i) (find p later) (λ j. info_of (i ∷ later) j.no.0 ≡ Some j)
    (ap (λ b. cond b (Some i) (info_of later i.no.0)) (eq-eqb i.no.0 i.no.0 refl))
    (both_some (λ j. info_of later j.no.0 ≡ Some j) (λ j. ltb i.no.0 j.no.0 ≡ true) (λ j. info_of (i ∷ later) j.no.0 ≡ Some j) (find p later)
    (found_by_number p later parts.1) (found_passes p (λ j. ltb i.no.0 j.no.0) later parts.0) (λ j found above. past_first i j later found above))

pub named_is_atomic : (infos : List RuleInfo) (id : List ℕ) → is_orderly infos ≡ true → IfSome (rule_named infos id) (λ rule. has_atomic infos rule.0 ≡ true)
named_is_atomic infos id orderly =
    after_some (λ i. info_of infos i.no.0 ≡ Some i) (λ (rule : RuleNo). has_atomic infos rule.0 ≡ true) (find (has_id id) infos) atomic_no
    (found_by_number (has_id id) infos (orderly_rise infos orderly))
    (λ i found. when (is_atomic i) (Some i.no) (λ (rule : RuleNo). has_atomic infos rule.0 ≡ true) (λ atomic. ap (λ o. option_map_or is_atomic o false) found ∙ atomic))
