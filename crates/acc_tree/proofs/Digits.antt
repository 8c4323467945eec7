-- Digits that write a number past 64 bits count as the greatest number of those.
use Rattle.std.proofs.Common.{◌≡◌, ◌&&◌, ℕ, ◌-◌, ◌^◌, ◌<◌, ◌≤◌, List, [], ◌∷◌, length, Bool, true, false, sym, ap, arith, rules, Some, Err}
use Rattle.std.proofs.lemmas.Str.Parse.{IsNumeralModel, numerals_by_value, parse_digits}
use Rattle.std.proofs.Math.Nat.{min-eq_right}
use Rattle.std.specs.List.{list_all}
use Rattle.std.specs.Char.{is_ascii_digit}
use Rattle.std.specs.Str.Parse.{digits_value, ParsesUnsigned}
use Rattle.acc_tree.specs.Numbers.{is_digits, whole_number}

own : IsNumeralModel (λ ds. list_all is_ascii_digit ds ≡ true) (digits_value 10)
own = numerals_by_value _ (search rules)

second : (a b : Bool) → (a && b) ≡ true → b ≡ true
second true b h = h
second false b h = cc

is_filled : (text : List ℕ) → is_digits text ≡ true → 0 < length text
is_filled [] h = cc
is_filled (d ∷ text) h = omega arith

is_past : (n : ℕ) → (n < 2 ^ 64 → ⊥) → 2 ^ 64 - 1 ≤ n
is_past n great = omega arith

pub read_greatest : {E : Type 0} (text : List ℕ) (e : E) → ParsesUnsigned 64 10 text (Err e) → is_digits text ≡ true → Some 18446744073709551615 ≡ whole_number text
read_greatest text e h are =
    let filled = is_filled text are in
    let no : ¬ ((0 < length text) × (digits_value 10 text < 2 ^ 64)) = parse_digits own 64 text (Err e) h (second _ _ are) in
    let great : digits_value 10 text < 2 ^ 64 → ⊥ = λ less. no (filled, less) in
    rw are (ap Some (sym (min-eq_right (is_past (digits_value 10 text) great))))
