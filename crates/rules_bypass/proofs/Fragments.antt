-- What stands behind a `#`.
use Rattle.std.proofs.Common.{◌≡◌, ◌≢◌, ◌==◌, ℕ, List, [], ◌∷◌, Bool, true, false, cond, Option, Some, None, MatchOption, Bor, refl, sym, ap, ◌∙◌, arith}
use Rattle.std.proofs.lemmas.Bool.{eqb-true}
use Rattle.std.specs.Option.{option_copied}
use Rattle.rules_bypass.specs.Bypass.{fragment}

pub fragment_is : (bs : List ℕ) (r : Option (Bor (List ℕ))) → MatchOption r ((rest : List ℕ) → bs ≢ 35 ∷ rest) (λ x. bs ≡ 35 ∷ x.now) → option_copied r ≡ fragment bs
fragment_is bs (Some x) h = sym (ap fragment h)
fragment_is [] None h = refl
fragment_is (b ∷ rest) None h = by_byte (b == 35) refl
  where
    by_byte : (is : Bool) → (b == 35) ≡ is → None ≡ cond is (Some rest) None
    by_byte true e = absurd (h rest (ap (λ c. c ∷ rest) (eqb-true b 35 e)))
    by_byte false e = refl
