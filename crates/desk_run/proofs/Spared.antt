-- Books past the first that weren't lent judged nothing.
use Rattle.std.proofs.Common.{◌≡◌, ℕ, List, ◌++◌, length, drop, map, sym, ap, ◌∙◌, subst}
use Rattle.std.proofs.Math.Seq.{drop-append_seam}
use Rattle.std.proofs.lemmas.List.{drop-map}
use Rattle.desk_run.specs.Desk.{Spares}

past : {A : Type 0} (n : ℕ) (old front back : List A) → length front ≡ n → back ≡ drop n old → drop n (front ++ back) ≡ drop n old
past n old front back fits rest = subst (λ k. drop k (front ++ back) ≡ back) fits (drop-append_seam front back) ∙ rest

pub spared : {A : Type 0} (calls : A → ℕ) (n : ℕ) (old front back : List A) → length front ≡ n → back ≡ drop n old → Spares n (map calls old) (map calls (front ++ back))
spared calls n old front back fits rest = drop-map calls n (front ++ back) ∙ ap (map calls) (past n old front back fits rest) ∙ sym (drop-map calls n old)
