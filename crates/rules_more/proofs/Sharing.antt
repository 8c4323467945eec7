-- Words that were noted.
use Rattle.std.proofs.Common.{◌≡◌, ◌||◌, cond, ℕ, List, [], ◌∷◌, Bool, true, false, Option, Some, refl, sym, ap, ◌∙◌}
use Rattle.std.proofs.lemmas.Bool.{false≢true}
use Rattle.std.proofs.lemmas.Slice.Eq.{bytes_eq-Decides}
use Rattle.std.specs.Borrow.{Bor}
use Rattle.std.specs.BTreeMap.{get_by}
use Rattle.std.specs.Cmp.Lexicographic.{slice_cmp}
use Rattle.std.specs.List.{list_any}
use Rattle.std.specs.Map.{update}
use Rattle.std.specs.Option.{is_some}
use Rattle.std.specs.Ordering.{nat_cmp}
use Rattle.std.specs.Str.{bytes_eq}
use Rattle.rules_more.specs.SharedWords.{share_one, Noted, has_word, AreNoted}

-- what a map has at a word
abbrev pub value_of : Noted → List ℕ → Option Bool
value_of noted word = get_by (λ (k : Bor (List ℕ)). slice_cmp nat_cmp word k.now) noted

or_false : (b : Bool) → b ≡ (b || false)
or_false true = refl
or_false false = refl

or_true : (b : Bool) → true ≡ (b || true)
or_true true = refl
or_true false = refl

other_word : (w v : List ℕ) → bytes_eq v w ≡ false → bytes_eq w v ≡ false
other_word w v e = by (bytes_eq w v) refl
  where
    by : (b : Bool) → bytes_eq w v ≡ b → b ≡ false
    by true h = absurd (false≢true (sym e ∙ (bytes_eq-Decides v w).1 (sym ((bytes_eq-Decides w v).0 h))))
    by false h = refl

-- one word more, by what two maps have at each word
pub one_more : (old new : List ℕ → Option Bool) (word : List ℕ) → ((w : List ℕ) → new w ≡ update bytes_eq old word (Some true) w)
    → (w : List ℕ) → is_some (new w) ≡ (is_some (old w) || list_any (bytes_eq w) (word ∷ []))
one_more old new word h w = ap is_some (h w) ∙ by_word (bytes_eq word w) refl
  where
    by_word : (b : Bool) → bytes_eq word w ≡ b → is_some (cond b (Some true) (old w)) ≡ (is_some (old w) || (bytes_eq w word || false))
    by_word true e =
        let same : w ≡ word = sym ((bytes_eq-Decides word w).0 e) in
        or_true (is_some (old w)) ∙ ap (λ b. is_some (old w) || (b || false)) (sym ((bytes_eq-Decides w word).1 same))
    by_word false e = or_false (is_some (old w)) ∙ ap (λ b. is_some (old w) || (b || false)) (sym (other_word w word e))

-- some word is shared where some word was noted
pub one_shared : (noted : Noted) (some others : List (List ℕ)) → AreNoted noted others → list_any (has_word noted) some ≡ share_one some others
one_shared noted some others h = λ i. list_any (λ word. h word i) some
