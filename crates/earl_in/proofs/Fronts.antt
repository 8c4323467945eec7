-- What follows a front of a text.
use Rattle.std.proofs.Common.{◌≡◌, ◌≢◌, ℕ, eqb, Bool, true, false, cond, List, [], ◌∷◌, ◌++◌, drop, Option, Some, None, refl, sym, ap, ◌∙◌}
use Rattle.std.proofs.lemmas.Bool.{eq-eqb, eqb-true}
use Rattle.std.specs.Borrow.{Bor}
use Rattle.std.specs.Option.{option_copied, MatchOption}
use Rattle.std.specs.Str.Pattern.{FindsTextPrefix, StripsPrefix}
use Rattle.earl_in.specs.Words.{after}

after_front : (front rest : List ℕ) → after front (front ++ rest) ≡ Some rest
after_front [] rest = refl
after_front (c ∷ front) rest = ap (λ b. cond b (after front (front ++ rest)) None) (eq-eqb c c refl) ∙ after_front front rest

other_front : (front text : List ℕ) → ((rest : List ℕ) → text ≢ front ++ rest) → after front text ≡ None
other_front [] text other = absurd (other text refl)
other_front (c ∷ front) [] other = refl
other_front (c ∷ front) (d ∷ text) other =
    chosen (eqb c d) refl (λ e. other_front front text (λ rest same. other rest (ap (λ x. x ∷ text) (sym (eqb-true c d e)) ∙ ap (λ l. c ∷ l) same)))
  where
    chosen : (b : Bool) → eqb c d ≡ b → (eqb c d ≡ true → after front text ≡ None) → cond b (after front text) None ≡ None
    chosen true e deeper = deeper e
    chosen false e deeper = refl

-- what `strip_prefix` leaves
pub stripped : (front text : List ℕ) (r : Option (Bor (List ℕ))) → MatchOption r (FindsTextPrefix front text None) (λ x. StripsPrefix (FindsTextPrefix front) text x.now)
    → option_copied r ≡ after front text
stripped front text None lacks = sym (other_front front text lacks)
stripped front text (Some x) finds =
    let n = finds.0 in
    let found = finds.1 in
    ap Some finds.2 ∙ sym (ap (after front) found.1 ∙ after_front front (drop n text))
