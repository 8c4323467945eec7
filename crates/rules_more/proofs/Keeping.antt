-- Words that are kept, and that two lists share.
use Rattle.std.proofs.Common.{◌≡◌, ◌||◌, ℕ, List, [], ◌∷◌, Bool, true, false, refl, sym, ap, ◌∙◌}
use Rattle.std.proofs.lemmas.Slice.Eq.{bytes_eq-Decides}
use Rattle.std.specs.List.{list_any}
use Rattle.std.specs.Str.{bytes_eq}
use Rattle.rules_more.specs.KeptWords.{Kept, has_kept, AreKept}
use Rattle.rules_more.specs.SharedWords.{share_one}
use Rattle.rules_more.proofs.Containing.{both_so}

-- either list may be gone over

eq_turned : (v w : List ℕ) → bytes_eq v w ≡ bytes_eq w v
eq_turned v w =
    both_so (bytes_eq v w) (bytes_eq w v)
    (λ h. (bytes_eq-Decides w v).1 (sym ((bytes_eq-Decides v w).0 h)))
    (λ h. (bytes_eq-Decides v w).1 (sym ((bytes_eq-Decides w v).0 h)))

or_crossed : (a b c d : Bool) → ((a || b) || (c || d)) ≡ ((a || c) || (b || d))
or_crossed true b c d = refl
or_crossed false true true d = refl
or_crossed false true false d = refl
or_crossed false false c d = refl

any_of_none : (words : List (List ℕ)) → list_any (λ word. false) words ≡ false
any_of_none [] = refl
any_of_none (word ∷ words) = any_of_none words

any_of_either : (p q : List ℕ → Bool) (words : List (List ℕ)) → list_any (λ word. p word || q word) words ≡ (list_any p words || list_any q words)
any_of_either p q [] = refl
any_of_either p q (word ∷ words) =
    ap (λ b. (p word || q word) || b) (any_of_either p q words) ∙ or_crossed (p word) (q word) (list_any p words) (list_any q words)

share_turned : (some others : List (List ℕ)) → share_one others some ≡ share_one some others
share_turned [] others = any_of_none others
share_turned (one ∷ some) others =
    any_of_either (λ word. bytes_eq word one) (λ word. list_any (bytes_eq word) some) others
    ∙ (λ i. list_any (λ word. eq_turned word one i) others || share_turned some others i)

-- a word of the other list is kept where both share one
pub one_kept : (kept : Kept) (some others : List (List ℕ)) → AreKept kept some → list_any (has_kept kept) others ≡ share_one some others
one_kept kept some others h = (λ i. list_any (λ word. h word i) others) ∙ share_turned some others
