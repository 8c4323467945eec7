-- Places that are counted have letters that stand in their order.
use Rattle.std.proofs.Common.{◌≡◌, ℕ, pos, ◌<◌, ◌∙◌, arith, int_cmp, Less}
use Rattle.std.proofs.lemmas.Bool.Decides.{nat_tests}
use Rattle.std.proofs.lemmas.Int.{ints}
use Rattle.named_rows.specs.ByName.{names_cmp}
use Rattle.sql_rows.specs.Tables.{number_letters}
use Rattle.sql_rows.proofs.Letters.{numbers_rise}

pub letters_below : (m n : ℕ) → m < n → names_cmp (number_letters (pos m)) (number_letters (pos n)) ≡ Less
letters_below m n less = let below : int_cmp (pos m) (pos n) ≡ Less = grind (arith, ints, nat_tests, less) in numbers_rise (pos m) (pos n) ∙ below
