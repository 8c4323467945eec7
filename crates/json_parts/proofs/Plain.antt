-- A text whose bytes stand for themselves.
use Rattle.std.proofs.Common.{◌≡◌, ℕ, ◌+◌, ◌<◌, Bool, true, not, ◌&&◌, ◌==◌, nat_le, List, [], ◌∷◌, ◌++◌, length, take, get_or, refl, sym, ap, ap₂, ◌∙◌}
use Rattle.std.proofs.lemmas.Bool.{and_parts, not-true, eqb-false, leb-true}
use Rattle.std.proofs.lemmas.List.{take_more}
use Rattle.std.proofs.lemmas.List.Concat.{flat_map-append}
use Rattle.json.specs.Print.{escape, escape_byte}
use Rattle.json.proofs.Printed.Strings.{escape_byte_plain}

one_plain : (x : ℕ) → (nat_le 32 x && not (x == 34) && not (x == 92)) ≡ true → escape (x ∷ []) ≡ x ∷ []
one_plain x h =
    let parts = and_parts (nat_le 32 x && not (x == 34)) (not (x == 92)) h in
    let front = and_parts (nat_le 32 x) (not (x == 34)) parts.0 in
    ap (λ l. l ++ []) (escape_byte_plain x (eqb-false x 34 (not-true (x == 34) front.1)) (eqb-false x 92 (not-true (x == 92) parts.1)) (leb-true 32 x front.0))

-- one byte more stands for itself
pub plain_more : (text : List ℕ) (place : ℕ) → place < length text → (nat_le 32 (get_or text place 0) && not (get_or text place 0 == 34) && not (get_or text place 0 == 92)) ≡ true → escape (take place text) ≡ take place text
    → escape (take (place + 1) text) ≡ take (place + 1) text
plain_more text place within is before =
    let x = get_or text place 0 in
    let more = take_more text place 0 within in
    ap escape more ∙ flat_map-append escape_byte (take place text) (x ∷ []) ∙ ap₂ (λ a b. a ++ b) before (one_plain x is) ∙ sym more
