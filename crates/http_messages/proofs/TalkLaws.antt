-- The bytes of a connection determine what they say.
use Rattle.std.proofs.Common.{◌≡◌, ℕ, ◌⊎◌, inl, inr, Bool, true, false, List, [], ◌∷◌, Option, Some, None, refl, sym, ap, ◌∙◌, subst}
use Rattle.http_messages.specs.declared.head.Head.{Head}
use Rattle.http_messages.specs.declared.item.Item.{Item}
use Rattle.http_messages.specs.Blocks.{head_block}
use Rattle.http_messages.specs.Talk.{End, ended, cut, closed, going, Next, stops, gives, next, HeadIn, IsNext, Talk, IsLast}
use Rattle.http_messages.proofs.HeadLaws.{head_unique}

one_head : (block : Option (List ℕ)) (o p : Option Head) → HeadIn block o → HeadIn block p → o ≡ p
one_head None o p x y = x ∙ sym y
one_head (Some block) o p x y = head_unique block o p x y

-- the bytes say one thing first
pub next_unique : (bytes : List ℕ) (n m : Next) → IsNext bytes n → IsNext bytes m → n ≡ m
unfolding IsNext
next_unique bytes n m x y = x.2 ∙ ap (λ o. next o bytes) (one_head (head_block bytes) x.0 y.0 x.1 y.1) ∙ sym y.2

-- what two talks of the same bytes agree on
abbrev Same : List Item → End → List Item → End → Type 0
Same is e js f = (is ≡ js) × (e ≡ f)

not_both : (b : Bool) → b ≡ true → b ≡ false → ⊥
not_both b x y = cc

stop_or_give : (bytes : List ℕ) (e : End) (i : Item) (rest : List ℕ) → IsNext bytes (stops e) → IsNext bytes (gives i rest) → ⊥
stop_or_give bytes e i rest x y = let same = next_unique bytes _ _ x y in cc

-- bytes determine the items and the end
pub talk_unique : (bytes : List ℕ) (is js : List Item) (e f : End) → Talk bytes is e → Talk bytes js f → IsLast e → IsLast f → (is ≡ js) × (e ≡ f)
talk_unique bytes [] [] ended ended x y _ _ = (refl, refl)
talk_unique bytes [] [] cut cut x y _ _ = (refl, refl)
talk_unique bytes [] [] ended cut x y _ _ = let same = next_unique bytes _ _ x y in (refl, cc)
talk_unique bytes [] [] cut ended x y _ _ = let same = next_unique bytes _ _ x y in (refl, cc)
talk_unique bytes [] [] closed f x y _ _ = absurd x
talk_unique bytes [] [] ended closed x y _ _ = absurd y
talk_unique bytes [] [] cut closed x y _ _ = absurd y
talk_unique bytes [] [] (going l) f x y last _ = absurd last
talk_unique bytes [] [] ended (going l) x y _ last = absurd last
talk_unique bytes [] [] cut (going l) x y _ last = absurd last
talk_unique bytes [] (j ∷ js) ended f x y _ _ = absurd (stop_or_give bytes ended j y.0 x y.1)
talk_unique bytes [] (j ∷ js) cut f x y _ _ = absurd (stop_or_give bytes cut j y.0 x y.1)
talk_unique bytes [] (j ∷ js) closed f x y _ _ = absurd x
talk_unique bytes [] (j ∷ js) (going l) f x y last _ = absurd last
talk_unique bytes (i ∷ is) [] e ended x y _ _ = absurd (stop_or_give bytes ended i x.0 y x.1)
talk_unique bytes (i ∷ is) [] e cut x y _ _ = absurd (stop_or_give bytes cut i x.0 y x.1)
talk_unique bytes (i ∷ is) [] e closed x y _ _ = absurd y
talk_unique bytes (i ∷ is) [] e (going l) x y _ last = absurd last
talk_unique bytes (i ∷ is) (j ∷ js) e f x y le lf =
    both (next_unique bytes _ _ x.1 y.1) x.2 y.2 (λ u v. talk_unique x.0 is js e f u v le lf)
  where
    first : gives i x.0 ≡ gives j y.0 → i ≡ j
    first same = cc

    rest : gives i x.0 ≡ gives j y.0 → x.0 ≡ y.0
    rest same = cc

    both : gives i x.0 ≡ gives j y.0
        → ((i.closes ≡ true) × (is ≡ []) × (e ≡ closed)) ⊎ ((i.closes ≡ false) × Talk x.0 is e)
        → ((j.closes ≡ true) × (js ≡ []) × (f ≡ closed)) ⊎ ((j.closes ≡ false) × Talk y.0 js f)
        → (Talk x.0 is e → Talk x.0 js f → (is ≡ js) × (e ≡ f)) → (i ∷ is ≡ j ∷ js) × (e ≡ f)
    both same (inl (x1, x2, x3)) (inl (y1, y2, y3)) later = (cc, cc)
    both same (inl (x1, x2, x3)) (inr (y1, y2)) later = absurd (not_both _ x1 (ap (λ (k : Item). k.closes) (first same) ∙ y1))
    both same (inr (x1, x2)) (inl (y1, y2, y3)) later = absurd (not_both _ y1 (ap (λ (k : Item). k.closes) (sym (first same)) ∙ x1))
    both same (inr (x1, x2)) (inr (y1, y2)) later =
        let P : List ℕ → Type 0 = λ r. Talk r js f in
        let after = later x2 (subst P (sym (rest same)) y2) in
        (cc, after.1)
