-- White space of ASCII is white space.
use Rattle.std.proofs.Common.{◌≡◌, ℕ, ◌<◌, zero, suc, List, [], ◌∷◌, true, refl, ◌∙◌, ap, arith}
use Rattle.std.proofs.lemmas.Bool.Decides.{nat_tests}
use Rattle.std.proofs.lemmas.Bool.{and_parts, and_from}
use Rattle.std.proofs.lemmas.Str.{chars-IsAscii}
use Rattle.std.specs.Char.{is_whitespace, is_ascii_whitespace}
use Rattle.std.specs.List.{list_all}
use Rattle.std.specs.Str.{IsAscii}
use Rattle.texts.specs.Words.{blank}

is_ascii : (c : ℕ) → is_ascii_whitespace c ≡ true → c < 128
is_ascii c h = grind (arith, nat_tests)

is_space : (c : ℕ) → is_ascii_whitespace c ≡ true → is_whitespace c ≡ true
is_space c h = grind (arith, nat_tests)

are_ascii : (text : List ℕ) → list_all is_ascii_whitespace text ≡ true → IsAscii text
are_ascii [] h i = grind (arith)
are_ascii (b ∷ text) h zero = is_ascii b (and_parts (is_ascii_whitespace b) (list_all is_ascii_whitespace text) h).0
are_ascii (b ∷ text) h (suc i) = are_ascii text (and_parts (is_ascii_whitespace b) (list_all is_ascii_whitespace text) h).1 i

are_space : (text : List ℕ) → list_all is_ascii_whitespace text ≡ true → list_all is_whitespace text ≡ true
are_space [] h = refl
are_space (b ∷ text) h =
    let parts = and_parts (is_ascii_whitespace b) (list_all is_ascii_whitespace text) h in
    and_from (is_whitespace b) (list_all is_whitespace text) (is_space b parts.0) (are_space text parts.1)

pub blank-ascii : (text : List ℕ) → list_all is_ascii_whitespace text ≡ true → blank text ≡ true
blank-ascii text h = ap (list_all is_whitespace) (chars-IsAscii text (are_ascii text h)) ∙ are_space text h
