-- What is read is of atomic rules of the book, and of at most 10,000 entries.
use Rattle.std.proofs.Common.{◌≡◌, ◌&&◌, ◌≤◌, suc, ltb, leb, cond, Bool, true, false, List, [], ◌∷◌, length, Option, Some, None, IfSome, Result, refl, sym, ap, subst, ◌∙◌, arith}
use Rattle.std.specs.Prelude.{codes, IfOk}
use Rattle.std.specs.List.{find, list_all, AllByRecursion}
use Rattle.std.specs.Option.{option_and_then, option_map_or}
use Rattle.std.proofs.lemmas.Bool.{and_parts, eq-eqb, ne_eqb, ltb-true, leb-true}
use Rattle.serde_json.specs.Data.{Data, Items, no_items, item}
use Rattle.serde_json.specs.Find.{get, as_array, as_object}
use Rattle.rule_core.specs.declared.info.RuleNo.{RuleNo}
use Rattle.rule_core.specs.declared.info.RuleInfo.{RuleInfo}
use Rattle.rule_core.specs.Infos.{is_atomic, info_of, has_atomic, is_id, rise, differ, has_atomic_inputs, is_orderly}
use Rattle.earl_in.specs.declared.claim.Claim.{Claim}
use Rattle.earl_in.specs.declared.claim.EarlFault.{EarlFault}
use Rattle.earl_in.specs.declared.claim.EarlFault.TheVariants.{Body, Graph}
use Rattle.earl_in.specs.declared.limits.TheConstants.{MOST_CLAIMS}
use Rattle.earl_in.specs.Words.{after, reference_of, has_id, atomic_no, rule_with_id, rule_named, rule_of, is_by_person, verdict_of, node_of, digest_of, note_of}
use Rattle.earl_in.specs.Entries.{claim_of}
use Rattle.earl_in.specs.Reading.{unless_absent, many, few, graph_of, claims_in, read_earl, Fit, ◌>>=◌}
use Rattle.earl_in.proofs.Chosen.{when, after_some, past, past_this}

-- ---- the rule that an id names is found by its number too

found_passes : {A : Type 0} (p q : A → Bool) (xs : List A) → list_all q xs ≡ true → IfSome (find p xs) (λ x. q x ≡ true)
found_passes p q [] all = tt
found_passes p q (x ∷ xs) all = chosen (p x) (and_parts (q x) (list_all q xs) all).0 (found_passes p q xs (and_parts (q x) (list_all q xs) all).1)
  where
    chosen : (b : Bool) → q x ≡ true → IfSome (find p xs) (λ y. q y ≡ true) → IfSome (cond b (Some x) (find p xs)) (λ y. q y ≡ true)
    chosen true here rest = here
    chosen false here rest = rest

-- a later rule isn't taken for this one
past_first : (i j : RuleInfo) (later : List RuleInfo) → info_of later j.no.0 ≡ Some j → ltb i.no.0 j.no.0 ≡ true → info_of (i ∷ later) j.no.0 ≡ Some j
past_first i j later found above =
    let over = ltb-true i.no.0 j.no.0 above in
    ap (λ b. cond b (Some i) (info_of later j.no.0)) (ne_eqb j.no.0 i.no.0 (λ same. omega arith)) ∙ found

both_some : {X : Type 0} (P Q R : X → Type 0) (o : Option X) → IfSome o P → IfSome o Q → ((x : X) → P x → Q x → R x) → IfSome o R
both_some P Q R None p q more = tt
both_some P Q R (Some x) p q more = more x p q

found_by_number : (p : RuleInfo → Bool) (infos : List RuleInfo) → rise infos ≡ true → IfSome (find p infos) (λ i. info_of infos i.no.0 ≡ Some i)
found_by_number p [] up = tt
found_by_number p (i ∷ later) up =
    let parts = and_parts (list_all (λ j. ltb i.no.0 j.no.0) later) (rise later) up in
    chosen (p i)
    (both_some (λ j. info_of later j.no.0 ≡ Some j) (λ j. ltb i.no.0 j.no.0 ≡ true) (λ j. info_of (i ∷ later) j.no.0 ≡ Some j) (find p later)
    (found_by_number p later parts.1) (found_passes p (λ j. ltb i.no.0 j.no.0) later parts.0) (λ j found above. past_first i j later found above))
  where
    chosen : (b : Bool) → IfSome (find p later) (λ j. info_of (i ∷ later) j.no.0 ≡ Some j) → IfSome (cond b (Some i) (find p later)) (λ j. info_of (i ∷ later) j.no.0 ≡ Some j)
    chosen true rest = ap (λ b. cond b (Some i) (info_of later i.no.0)) (eq-eqb i.no.0 i.no.0 refl)
    chosen false rest = rest

first_of : (a b c d : Bool) → (a && b && c && d) ≡ true → a ≡ true
first_of true b c d h = refl
first_of false b c d h = cc

orderly_rise : (infos : List RuleInfo) → is_orderly infos ≡ true → rise infos ≡ true
orderly_rise infos h = first_of (rise infos) (differ infos) (list_all (λ i. is_id i.id) infos) (list_all (has_atomic_inputs infos) infos) h

abbrev IsAtomic : List RuleInfo → RuleNo → Type 0
IsAtomic infos rule = has_atomic infos rule.0 ≡ true

atomic_info : (infos : List RuleInfo) (i : RuleInfo) → info_of infos i.no.0 ≡ Some i → IfSome (atomic_no i) (IsAtomic infos)
atomic_info infos i found = when (is_atomic i) (Some i.no) (IsAtomic infos) (λ atomic. ap (λ o. option_map_or is_atomic o false) found ∙ atomic)

joined : {X Y : Type 0} (P : X → Type 0) (Q : Y → Type 0) (o : Option X) (f : X → Option Y) → IfSome o P → ((x : X) → P x → IfSome (f x) Q) → IfSome (option_and_then f o) Q
joined P Q None f h next = tt
joined P Q (Some x) f h next = next x h

rule_fits : (infos : List RuleInfo) → is_orderly infos ≡ true → (member : Option Data) → IfSome (rule_of infos member) (IsAtomic infos)
rule_fits infos orderly member =
    let P = IsAtomic infos in
    after_some (reference_of member) (rule_named infos) P (λ test is.
    after_some (after (codes "urn:act-rule:") test) (rule_with_id infos) P (λ id named.
    joined (λ i. info_of infos i.no.0 ≡ Some i) P (find (has_id id) infos) atomic_no (found_by_number (has_id id) infos (orderly_rise infos orderly)) (atomic_info infos)))

-- ---- entries

abbrev pub IsOfBook : List RuleInfo → Claim → Type 0
IsOfBook infos c = has_atomic infos c.rule.0 ≡ true

entry_fits : (infos : List RuleInfo) → is_orderly infos ≡ true → (entry : Data) → IfSome (claim_of infos entry) (IsOfBook infos)
unfolding claim_of
entry_fits infos orderly entry =
    let P = IsOfBook infos in
    past P (reference_of (get (codes "earl:subject") entry)) _ (λ subject.
    past_this P (IsAtomic infos) (rule_of infos (get (codes "earl:test") entry)) _ (rule_fits infos orderly (get (codes "earl:test") entry)) (λ rule atomic.
    past P (cond (is_by_person (get (codes "earl:mode") entry)) (Some true) None) _ (λ mode.
    past P (get (codes "earl:result") entry) _ (λ result.
    past P (verdict_of (get (codes "earl:outcome") result)) _ (λ verdict.
    past P (node_of (get (codes "earl:pointer") result)) _ (λ node.
    past P (digest_of (get (codes "earl:info") result)) _ (λ digest.
    past P (note_of (get (codes "earl:info") result)) _ (λ note. atomic))))))))

-- ---- the list

claims_fit : (infos : List RuleInfo) → is_orderly infos ≡ true → (items : Items) → AllByRecursion (λ claim. IfSome claim (IsOfBook infos)) (claims_in infos items)
claims_fit infos orderly no_items = tt
claims_fit infos orderly (item entry others) = (entry_fits infos orderly entry, claims_fit infos orderly others)

as_many : (infos : List RuleInfo) (items : Items) → length (claims_in infos items) ≡ many items
as_many infos no_items = refl
as_many infos (item entry others) = ap suc (as_many infos others)

few_are : (items : Items) → IfSome (few items) (λ these. many these ≤ MOST_CLAIMS)
few_are items = when (leb (many items) MOST_CLAIMS) (Some items) (λ these. many these ≤ MOST_CLAIMS) (λ is. leb-true (many items) MOST_CLAIMS is)

graph_fits : (member : Option Data) → IfSome (graph_of member) (λ items. many items ≤ MOST_CLAIMS)
graph_fits member = after_some (option_and_then as_array member) few (λ these. many these ≤ MOST_CLAIMS) (λ items is. few_are items)

through : {X Y : Type 0} (P : Y → Type 0) (fault : EarlFault) (o : Option X) (next : X → Result Y EarlFault) → ((x : X) → o ≡ Some x → IfOk (next x) P) → IfOk (unless_absent fault o >>= next) P
through P fault None next h = tt
through P fault (Some x) next h = h x refl

pub read_fits : (infos : List RuleInfo) (body : Data) → is_orderly infos ≡ true → IfOk (read_earl infos body) (Fit infos)
unfolding read_earl
read_fits infos body orderly =
    let P = Fit infos in
    through P Body (as_object body) _ (λ members object.
    through P Graph (graph_of (get (codes "@graph") body)) _ (λ items is.
    let most = subst (λ o. IfSome o (λ these. many these ≤ MOST_CLAIMS)) is (graph_fits (get (codes "@graph") body)) in
    record { within = subst (λ n. n ≤ MOST_CLAIMS) (sym (as_many infos items)) most; atomic = claims_fit infos orderly items }))
