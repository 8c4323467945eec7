-- A book that is a table of rules is local where each atomic rule of it is.
use Rattle.std.proofs.Common.{◌≡◌, ◌==◌, ◌&&◌, nat_lt, ℕ, List, [], ◌∷◌, Bool, true, false, if◌then◌else◌, None, refl, sym, ap, subst, arith}
use Rattle.std.proofs.lemmas.Bool.{and_parts}
use Rattle.std.proofs.lemmas.Bool.Decides.{nat_tests}
use Rattle.std.proofs.lemmas.List.Elements.{All-from_recursion}
use Rattle.std.specs.List.{AllByRecursion, list_all}
use Rattle.snap_tree.specs.declared.row.NodeId.{NodeId}
use Rattle.snap_tree.specs.Trees.{Document}
use Rattle.rule_core.specs.declared.info.RuleInfo.{RuleInfo}
use Rattle.rule_core.specs.Books.{Entry, infos_of, said}
use Rattle.rule_core.specs.Infos.{is_atomic, rise, differ, is_id, has_atomic_inputs}
use Rattle.rule_core.specs.Reach.{Says}
use Rattle.rule_core.specs.Local.{IsLocal}
use Rattle.rule_sights.specs.Tables.{IsLocalEntry, IsLocalTable}

-- what is said by an info's number is local
IsLocalIn : List Entry → RuleInfo → Type 0
IsLocalIn entries info = IsLocal info (said entries info.no)

-- one that says the same is local too
same_local : (info : RuleInfo) (a b : Says) → ((page : Document) (n : NodeId) → a page n ≡ b page n) → IsLocal info a → IsLocal info b
same_local info a b same local = subst (IsLocal info) (λ i page n. same page n i) local

-- what says nothing is local
unsaid : (info : RuleInfo) → IsLocal info (λ page n. None)
unsaid info old new n versions k = refl

own_local : (e : Entry) (atomic : Bool) → is_atomic e.info ≡ atomic → IsLocalEntry e → IsLocal e.info (λ page n. if atomic then e.says page n else None)
own_local e true is local = local is
own_local e false is local = unsaid e.info

same_number : (n : ℕ) → (n == n) ≡ true
same_number n = grind (arith, nat_tests)

first_local : (e : Entry) (later : List Entry) → IsLocalEntry e → IsLocalIn (e ∷ later) e.info
unfolding IsLocalIn
first_local e later local =
    same_local e.info (λ page n. if is_atomic e.info then e.says page n else None) (said (e ∷ later) e.info.no)
    (λ page n. sym (ap (λ b. if b then (if is_atomic e.info then e.says page n else None) else said later e.info.no page n) (same_number e.info.no.0)))
    (own_local e (is_atomic e.info) refl local)

later_local : (e : Entry) (later : List Entry) (infos : List RuleInfo) → list_all (λ j. nat_lt e.info.no.0 j.no.0) infos ≡ true → AllByRecursion (IsLocalIn later) infos → AllByRecursion (IsLocalIn (e ∷ later)) infos
unfolding IsLocalIn
later_local e later [] h all = tt
later_local e later (info ∷ infos) h all =
    let both = and_parts (nat_lt e.info.no.0 info.no.0) (list_all (λ j. nat_lt e.info.no.0 j.no.0) infos) h in
    let other : (info.no.0 == e.info.no.0) ≡ false = grind (arith, nat_tests, both.0) in (
      same_local info (said later info.no) (said (e ∷ later) info.no)
          (λ page n. sym (ap (λ b. if b then (if is_atomic e.info then e.says page n else None) else said later info.no page n) other)) all.0,
      later_local e later infos both.1 all.1,
    )

each_local : (entries : List Entry) → rise (infos_of entries) ≡ true → AllByRecursion IsLocalEntry entries → AllByRecursion (IsLocalIn entries) (infos_of entries)
each_local [] h all = tt
each_local (e ∷ later) h all =
    let both = and_parts (list_all (λ (j : RuleInfo). nat_lt e.info.no.0 j.no.0) (infos_of later)) (rise (infos_of later)) h in
    (first_local e later all.0, later_local e later (infos_of later) both.0 (each_local later both.1 all.1))

pub table_local : (entries : List Entry) → IsLocalTable entries
unfolding IsLocalIn
table_local entries orderly all info at =
    let infos = infos_of entries in
    let first = (and_parts (rise infos && differ infos && list_all (λ (i : RuleInfo). is_id i.id) infos) (list_all (has_atomic_inputs infos) infos) orderly).0 in
    let second = (and_parts (rise infos && differ infos) (list_all (λ (i : RuleInfo). is_id i.id) infos) first).0 in
    let rises = (and_parts (rise infos) (differ infos) second).0 in
    subst (IsLocalIn entries) at.2 (All-from_recursion (IsLocalIn entries) infos (each_local entries rises all) at.0 info at.1)
