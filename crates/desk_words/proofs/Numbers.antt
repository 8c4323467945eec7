-- The number that was read of an option is the one that its text is.
use Rattle.std.proofs.Common.{◌≡◌, ℕ, List, Option, Some, None, Result, Ok, refl, sym, ◌∙◌, subst}
use Rattle.std.specs.Option.{option_map_or}
use Rattle.std.specs.Str.Parse.{ParsesUnsigned, digits_value, without_leading_plus}
use Rattle.std.proofs.lemmas.Option.{none-some}
use Rattle.clap.specs.Matches.{ReadsOne}

pub number_read : (E : Type 0) (G : List ℕ → Result ℕ E → Type 0) (text : Option (List ℕ)) (result : Option ℕ) (n : ℕ) → (text ≡ None → result ≡ None) → ((t : List ℕ) → text ≡ Some t → ReadsOne G t result)
    → ((t : List ℕ) (r : Result ℕ E) → G t r → ParsesUnsigned 64 10 t r) → result ≡ Some n → n ≡ option_map_or (λ t. digits_value 10 (without_leading_plus t)) text 0
number_read E G None result n none value parses is = absurd (none-some n (sym (none refl) ∙ is))
number_read E G (Some t) result n none value parses is =
    let read : ReadsOne G t (Some n) = subst (λ (r : Option ℕ). ReadsOne G t r) is (value t refl) in
    (parses t (Ok n) read).1
