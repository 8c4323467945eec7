-- Texts that are cases by themselves, in two parts.
use Rattle.std.proofs.Common.{◌≡◌, ℕ, List, [], ◌∷◌, ◌++◌, Result, Ok, Err, IfOk, IsOkAnd, is_ok, refl, sym, ap, ◌∙◌}
use Rattle.std.proofs.lemmas.Bool.{false≢true}
use Rattle.std.proofs.lemmas.List.{map-append}
use Rattle.std.specs.Borrow.{Bor}
use Rattle.rule_core.specs.declared.info.RuleInfo.{RuleInfo}
use Rattle.case_run.specs.declared.case.Case.{Case}
use Rattle.case_run.specs.declared.fault.CasesFault.{CasesFault}
use Rattle.case_run.specs.Faults.{◌>>=◌}
use Rattle.case_run.specs.Apart.{alone, all_alone, texts_of, AreAlone}

both_alone : (infos : List RuleInfo) (ones others : List (List ℕ)) (xs ys : List Case) → all_alone infos ones ≡ Ok xs → all_alone infos others ≡ Ok ys → all_alone infos (ones ++ others) ≡ Ok (xs ++ ys)
both_alone infos [] others xs ys h k = k ∙ ap (λ zs. Ok (zs ++ ys)) (ap (ok_or xs) h)
  where
    ok_or : List Case → Result (List Case) CasesFault → List Case
    ok_or d (Ok x) = x
    ok_or d (Err e) = d
both_alone infos (one ∷ ones) others xs ys h k = first (λ zs e. both_alone infos ones others zs ys e k) (alone infos one) (all_alone infos ones) refl h
  where
    first : ((zs : List Case) → all_alone infos ones ≡ Ok zs → all_alone infos (ones ++ others) ≡ Ok (zs ++ ys)) → (m : Result Case CasesFault) (r : Result (List Case) CasesFault) → all_alone infos ones ≡ r
        → (m >>= λ c. r >>= λ cs. Ok (c ∷ cs)) ≡ Ok xs → (m >>= λ c. all_alone infos (ones ++ others) >>= λ cs. Ok (c ∷ cs)) ≡ Ok (xs ++ ys)
    first again (Err f) r is h = absurd (false≢true (ap is_ok h))
    first again (Ok c) (Err f) is h = absurd (false≢true (ap is_ok h))
    first again (Ok c) (Ok zs) is h = ap (λ r. r >>= λ cs. Ok (c ∷ cs)) (again zs is) ∙ ap (λ m. m >>= λ ws. Ok (ws ++ ys)) h

-- and so what two threads read
pub joined_parts : {V : Type 0} (items : V → List Case) (infos : List RuleInfo) (parts ones others : List (Bor (List ℕ))) (first later all : Result V CasesFault) → parts ≡ ones ++ others
    → IfOk first (λ v. AreAlone infos ones (items v)) → IfOk later (λ v. AreAlone infos others (items v)) → IfOk all (λ v. IsOkAnd first (λ a. IsOkAnd later (λ b. items v ≡ items a ++ items b)))
    → IfOk all (λ v. AreAlone infos parts (items v))
joined_parts items infos parts ones others first later (Err f) is a b joined = tt
joined_parts items infos parts ones others (Err f) later (Ok v) is a b joined = absurd joined
joined_parts items infos parts ones others (Ok x) (Err f) (Ok v) is a b joined = absurd joined
joined_parts items infos parts ones others (Ok x) (Ok y) (Ok v) is a b joined =
    ap (λ ps. all_alone infos (texts_of ps)) is ∙ ap (all_alone infos) (map-append (λ p. p.now) ones others) ∙ both_alone infos (texts_of ones) (texts_of others) (items x) (items y) a b ∙ sym (ap Ok joined)
