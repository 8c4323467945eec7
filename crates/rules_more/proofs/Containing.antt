-- A text stands in another, as a run of bytes.
use Rattle.std.proofs.Common.{◌≡◌, ◌==◌, ◌&&◌, ◌||◌, ℕ, List, [], ◌∷◌, ◌++◌, Bool, true, false, None, refl, sym, ap, ◌∙◌}
use Rattle.std.proofs.lemmas.Bool.Decides.{Decides-eqb}
use Rattle.std.proofs.lemmas.Str.Pattern.{contains_text}
use Rattle.std.specs.Bool.{MatchBool}
use Rattle.std.specs.Cmp.{first_so, second_so}
use Rattle.std.specs.Str.Iter.{HasSubslice}
use Rattle.std.specs.Str.Pattern.{HasMatch, FindsText}
use Rattle.rules_more.specs.LabelInName.{begins, has_run}

begins_whole : (part rest : List ℕ) → begins part (part ++ rest) ≡ true
begins_whole [] rest = refl
begins_whole (b ∷ part) rest = ap (λ c. c && begins part (part ++ rest)) ((Decides-eqb b b).1 refl) ∙ begins_whole part rest

-- what the text has after a part that it begins with
begins_parts : (part text : List ℕ) → begins part text ≡ true → (rest : List ℕ) × (text ≡ part ++ rest)
begins_parts [] text h = (text, refl)
begins_parts (b ∷ part) [] h = cc
begins_parts (b ∷ part) (c ∷ text) h =
    let same : b ≡ c = (Decides-eqb b c).0 (first_so (b == c) (begins part text) h) in
    let later = begins_parts part text (second_so (b == c) (begins part text) h) in
    (later.0, λ i. sym same i ∷ later.1 i)

nothing_more : (part text : List ℕ) → begins part text ≡ true → has_run part text ≡ true
nothing_more part [] h = h
nothing_more part (c ∷ text) h = ap (λ b. b || has_run part text) h

or_true : (b : Bool) → (b || true) ≡ true
or_true true = refl
or_true false = refl

run_there : (part before rest : List ℕ) → has_run part (before ++ (part ++ rest)) ≡ true
run_there part [] rest = nothing_more part (part ++ rest) (begins_whole part rest)
run_there part (c ∷ before) rest =
    ap (λ b. begins part (c ∷ (before ++ (part ++ rest))) || b) (run_there part before rest) ∙ or_true (begins part (c ∷ (before ++ (part ++ rest))))

run_parts : (part text : List ℕ) → has_run part text ≡ true → HasSubslice text part
run_parts part [] h = let at = begins_parts part [] h in ([], at.0, at.1)
run_parts part (c ∷ text) h = by_first (begins part (c ∷ text)) refl h (run_parts part text)
  where
    by_first : (b : Bool) → begins part (c ∷ text) ≡ b → (b || has_run part text) ≡ true → (has_run part text ≡ true → HasSubslice text part) → HasSubslice (c ∷ text) part
    by_first true e k later = let at = begins_parts part (c ∷ text) e in ([], at.0, at.1)
    by_first false e k later = let at = later k in (c ∷ at.0, at.1, ap (λ t. c ∷ t) at.2)

pub both_so : (r h : Bool) → (r ≡ true → h ≡ true) → (h ≡ true → r ≡ true) → r ≡ h
both_so true true f g = refl
both_so true false f g = sym (f refl)
both_so false true f g = g refl
both_so false false f g = refl

pub run_found : (r : Bool) (part text : List ℕ) → MatchBool r (HasMatch (FindsText part) text) (FindsText part text None) → r ≡ has_run part text
run_found r part text found =
    let is = contains_text r part text found in
    both_so r (has_run part text)
    (λ h. let at = is.0 h in ap (has_run part) at.2 ∙ run_there part at.0 at.1)
    (λ h. is.1 (run_parts part text h))
