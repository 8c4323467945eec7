-- The letters of values compare as the values do.
use Rattle.std.proofs.Common.{◌≡◌, ℕ, zero, suc, ℤ, pos, List, Bool, true, false, Some, refl, sym, ap, ap₂, ◌∙◌, arith, int_cmp, Less, Greater}
use Rattle.std.specs.Prelude.{negsuc}
use Rattle.std.specs.Ordering.{is_eq, nat_cmp}
use Rattle.std.proofs.lemmas.Bool.Decides.{nat_tests}
use Rattle.std.proofs.lemmas.Int.{ints}
use Rattle.sqlite_value.specs.declared.value.Value.{Value}
use Rattle.sqlite_value.specs.declared.value.Value.TheVariants.{Int, Text}
use Rattle.sqlite_value.specs.declared.keys.Collation.TheVariants.{Binary}
use Rattle.sqlite_value.specs.Order.{bytes, value_cmp}
use Rattle.sqlite_value.proofs.OrderLemmas.{value_cmp-Int, value_cmp-Text, then-Equal}
use Rattle.sqlite_rules.specs.Edit.{id_in}
use Rattle.sqlite_sql.specs.Ops.{binary, is_true, from_truth}
use Rattle.sqlite_schema.specs.Rules.{equal}
use Rattle.named_rows.specs.ByName.{names_cmp}
use Rattle.sql_rows.specs.Tables.{letters_below_zero, number_letters, letters, same_name}
use Rattle.sql_rows.specs.Keyed.{KeyKind, text, number}

successors : (m n : ℕ) → nat_cmp (suc m) (suc n) ≡ nat_cmp m n
successors m n = grind (arith, nat_tests)

below_zero : (m n : ℕ) → names_cmp (letters_below_zero m) (letters_below_zero n) ≡ nat_cmp n m
below_zero zero zero = refl
below_zero zero (suc n) = let above : nat_cmp (suc n) 0 ≡ Greater = grind (arith, nat_tests) in sym above
below_zero (suc m) zero = let below : nat_cmp 0 (suc m) ≡ Less = grind (arith, nat_tests) in sym below
below_zero (suc m) (suc n) = below_zero m n ∙ sym (successors n m)

both_up : (m n : ℕ) → int_cmp (pos m) (pos n) ≡ nat_cmp m n
both_up m n = grind (arith, ints, nat_tests)

both_down : (m n : ℕ) → int_cmp (negsuc m) (negsuc n) ≡ nat_cmp n m
both_down m n = grind (arith, ints, nat_tests)

pub numbers_rise : (a b : ℤ) → names_cmp (number_letters a) (number_letters b) ≡ int_cmp a b
numbers_rise (pos m) (pos n) = then-Equal (nat_cmp m n) ∙ sym (both_up m n)
numbers_rise (pos m) (negsuc n) = refl
numbers_rise (negsuc m) (pos n) = refl
numbers_rise (negsuc m) (negsuc n) = below_zero m n ∙ sym (both_down m n)

-- a value of a key
abbrev pub IsOf : KeyKind → Value → Type 0
IsOf text v = v ≡ Text (bytes v)
IsOf number v = v ≡ Int (id_in v)

pub cmp_letters : (k : KeyKind) (v w : Value) → IsOf k v → IsOf k w → value_cmp v w ≡ names_cmp (letters v) (letters w)
cmp_letters text v w p q = ap₂ value_cmp p q ∙ value_cmp-Text (bytes v) (bytes w) ∙ sym (ap₂ (λ a b. names_cmp (letters a) (letters b)) p q)
cmp_letters number v w p q = ap₂ value_cmp p q ∙ value_cmp-Int (id_in v) (id_in w) ∙ sym (numbers_rise (id_in v) (id_in w)) ∙ sym (ap₂ (λ a b. names_cmp (letters a) (letters b)) p q)

said : (b : Bool) → is_true (from_truth (Some b)) ≡ b
said true = refl
said false = refl

equal_texts : (s t : List ℕ) → equal Binary (Text s) (Text t) ≡ is_eq (value_cmp (Text s) (Text t))
unfolding binary
equal_texts s t = said (is_eq (value_cmp (Text s) (Text t)))

equal_numbers : (a b : ℤ) → equal Binary (Int a) (Int b) ≡ is_eq (value_cmp (Int a) (Int b))
unfolding binary
equal_numbers a b = said (is_eq (value_cmp (Int a) (Int b)))

pub equal_letters : (k : KeyKind) (v w : Value) → IsOf k v → IsOf k w → equal Binary v w ≡ same_name (letters v) (letters w)
equal_letters text v w p q = ap₂ (equal Binary) p q ∙ equal_texts (bytes v) (bytes w) ∙ sym (ap₂ (λ a b. is_eq (value_cmp a b)) p q) ∙ ap is_eq (cmp_letters text v w p q)
equal_letters number v w p q = ap₂ (equal Binary) p q ∙ equal_numbers (id_in v) (id_in w) ∙ sym (ap₂ (λ a b. is_eq (value_cmp a b)) p q) ∙ ap is_eq (cmp_letters number v w p q)
