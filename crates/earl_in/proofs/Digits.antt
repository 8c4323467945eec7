-- Digits that write no number of 32 bits are no node.
use Rattle.std.proofs.Common.{◌≡◌, ◌&&◌, ℕ, ◌^◌, ◌<◌, ltb, List, [], ◌∷◌, length, Bool, true, false, not, cond, refl, arith, rules, Some, None, Err}
use Rattle.std.proofs.lemmas.Bool.{ltb-true}
use Rattle.std.proofs.lemmas.Str.Parse.{IsNumeralModel, numerals_by_value, parse_digits}
use Rattle.std.specs.Prelude.{◌==◌, slice_index}
use Rattle.std.specs.List.{list_all}
use Rattle.std.specs.Char.{is_ascii_digit}
use Rattle.std.specs.Str.{byte}
use Rattle.std.specs.Str.Parse.{digits_value, ParsesUnsigned}
use Rattle.earl_in.specs.Words.{is_number, node_numbered}

own : IsNumeralModel (λ ds. list_all is_ascii_digit ds ≡ true) (digits_value 10)
own = numerals_by_value _ (search rules)

first : (a b c : Bool) → (a && b && c) ≡ true → a ≡ true
first true b c h = refl
first false b c h = cc

third : (a b c : Bool) → (a && b && c) ≡ true → c ≡ true
third true true true h = refl
third true true false h = cc
third true false c h = cc
third false b c h = cc

is_filled : (text : List ℕ) → not (length text == 0) ≡ true → 0 < length text
is_filled [] h = cc
is_filled (d ∷ text) h = omega arith

not_below : (m n : ℕ) → (m < n → ⊥) → ltb m n ≡ false
not_below m n over = chosen (ltb m n) refl
  where
    chosen : (b : Bool) → ltb m n ≡ b → b ≡ false
    chosen true e = absurd (over (ltb-true m n e))
    chosen false e = refl

none_of : {X : Type 0} (b l : Bool) (x : X) → l ≡ false → None ≡ cond (b && l) (Some x) None
none_of true true x h = cc
none_of true false x h = refl
none_of false l x h = refl

pub unread : {E : Type 0} (text : List ℕ) (e : E) → ParsesUnsigned 32 10 text (Err e) → is_number text ≡ true → None ≡ node_numbered text
unread text e h are =
    let digits = list_all is_ascii_digit text in
    let some = not (length text == 0) in
    let plain = not (slice_index text 0 == byte "0") in
    let filled = is_filled text (first some plain digits are) in
    let none : ¬ ((0 < length text) × (digits_value 10 text < 2 ^ 32)) = parse_digits own 32 text (Err e) h (third some plain digits are) in
    none_of (is_number text) (ltb (digits_value 10 text) (2 ^ 32)) _ (not_below (digits_value 10 text) (2 ^ 32) (λ less. none (filled, less)))
