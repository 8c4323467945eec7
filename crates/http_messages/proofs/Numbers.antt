-- A content-length of 1 to 19 digits fits 64 bits.
use Rattle.std.proofs.Common.{◌≡◌, ℕ, ◌+◌, ◌-◌, ◌*◌, ◌^◌, ◌<◌, ◌≤◌, true, List, length, get_or, take, arith, rules}
use Rattle.std.specs.List.{list_all}
use Rattle.std.specs.Char.{is_ascii_digit, digit_value}
use Rattle.std.specs.Int.{IsInRange}
use Rattle.std.specs.Str.Parse.{digits_value}
use Rattle.std.proofs.lemmas.Bool.{and_parts, leb-true}
use Rattle.std.proofs.lemmas.Bool.Decides.{nat_tests}
use Rattle.std.proofs.lemmas.Int.Digits.{digits_value_more}
use Rattle.std.proofs.lemmas.Str.Parse.{IsNumeralModel, numerals_by_value, digits_value_short, digits_value-take-le, digit_at}
use Rattle.http_messages.specs.Framing.{is_length}

numerals : IsNumeralModel (λ ds. list_all is_ascii_digit ds ≡ true) (digits_value 10)
numerals = numerals_by_value (λ ds. list_all is_ascii_digit ds ≡ true) (search rules)

digits : (ds : List ℕ) → is_length ds ≡ true → list_all is_ascii_digit ds ≡ true
unfolding is_length
digits ds is = (and_parts _ _ is).1

fits : (ds : List ℕ) → is_length ds ≡ true → length ds ≤ 19
unfolding is_length
fits ds is = let within = (and_parts _ _ (and_parts _ _ is).0).1 in leb-true _ _ within

-- each place has a digit
pub digit : (ds : List ℕ) (i : ℕ) → is_length ds ≡ true → i < length ds → IsInRange 48 57 (get_or ds i 0)
digit ds i is inside = digit_at ds i (numerals.to ds (digits ds is)) inside

-- the number so far and one digit more fits
step_fits : (ds : List ℕ) (i : ℕ) → is_length ds ≡ true → i < length ds → digits_value 10 (take i ds) * 10 + digit_value (get_or ds i 0) < 2 ^ 64
step_fits ds i is inside =
    let all : digits_value 10 ds < 10 ^ 19 = digits_value_short numerals ds 19 (digits ds is) (fits ds is) in
    omega (arith, all, digits_value_more 10 ds i inside, digits_value-take-le 10 ds (i + 1) (omega arith))

digit_is : (c : ℕ) → IsInRange 48 57 c → digit_value c ≡ c - 48
digit_is c range = grind (arith, nat_tests, range)

-- the number after one digit more
pub one_more : (ds : List ℕ) (i n d : ℕ) → is_length ds ≡ true → i < length ds → n ≡ digits_value 10 (take i ds) → d ≡ get_or ds i 0 - 48 → (10 * n + d ≡ digits_value 10 (take (i + 1) ds)) × (10 * n + d < 2 ^ 64)
one_more ds i n d is inside so_far one =
    let value = digit_is (get_or ds i 0) (digit ds i is inside) in
    (omega (arith, value, digits_value_more 10 ds i inside), omega (arith, value, step_fits ds i is inside))
