-- What holds of each page of a list holds of each of its two parts.
use Rattle.std.proofs.Common.{◌≡◌, ℕ, ◌+◌, ◌≤◌, List, [], ◌∷◌, ◌++◌, length, Result, Ok, Err, IfOk, sym, ap, ◌∙◌, subst, arith, length-append}
use Rattle.std.specs.Prelude.{Vec, IsOkAnd}
use Rattle.std.specs.List.{All}
use Rattle.std.proofs.lemmas.List.{map-append}
use Rattle.std.proofs.lemmas.List.Elements.{All-nil, All-cons, All-head, All-tail}
use Rattle.std.proofs.lemmas.List.Sums.{sum_by-append}
use Rattle.rule_core.specs.Books.{Book}
use Rattle.rule_core.specs.Reach.{affected}
use Rattle.judge_core.specs.declared.outcomes.Outcomes.{Outcomes}
use Rattle.judge_core.specs.Outcomes.{outcomes, judgings}
use Rattle.reaudit.specs.declared.pages.ReWork.{ReWork}
use Rattle.reaudit.specs.Pages.{AreVersions, WereFound, new_outcome, new_outcomes, reached_pairs, most_judgings}

pub all_left : {X : Type 0} (P : X → Type 0) (xs ys : List X) → All P (xs ++ ys) → All P xs
all_left P [] ys all = All-nil P
all_left P (x ∷ xs) ys all = All-cons P x xs (All-head P x (xs ++ ys) all) (all_left P xs ys (All-tail P x (xs ++ ys) all))

pub all_right : {X : Type 0} (P : X → Type 0) (xs ys : List X) → All P (xs ++ ys) → All P ys
all_right P [] ys all = all
all_right P (x ∷ xs) ys all = all_right P xs ys (All-tail P x (xs ++ ys) all)

-- ---- two parts of the pages, and what is found of each

abbrev pub IsVersion : ReWork → Type 0
IsVersion w = w.old.address ≡ w.new.address

abbrev pub WasFound : Book → ReWork → Type 0
WasFound book w = w.rows.rows ≡ outcomes book w.old w.judgements

module _ (book : Book) (pages first later : List ReWork) (whole : pages ≡ first ++ later) where
  pub versions_first : AreVersions pages → AreVersions first
  versions_first all = all_left IsVersion first later (subst AreVersions whole all)

  pub versions_later : AreVersions pages → AreVersions later
  versions_later all = all_right IsVersion first later (subst AreVersions whole all)

  found_first : WereFound book pages → WereFound book first
  found_first all = all_left (WasFound book) first later (subst (WereFound book) whole all)

  found_later : WereFound book pages → WereFound book later
  found_later all = all_right (WasFound book) first later (subst (WereFound book) whole all)

  both_are : {A E : Type 0} (r s t : Result (Vec Outcomes A) E) → IfOk r (λ all. all.items ≡ new_outcomes book first) → IfOk s (λ all. all.items ≡ new_outcomes book later)
      → IfOk t (λ all. IsOkAnd r (λ a. IsOkAnd s (λ b. all.items ≡ a.items ++ b.items))) → IfOk t (λ all. all.items ≡ new_outcomes book pages)
  both_are (Ok a) (Ok b) (Ok all) of_first of_later joined =
      joined ∙ ap (λ os. os ++ b.items) of_first ∙ ap (λ os. new_outcomes book first ++ os) of_later
      ∙ sym (ap (new_outcomes book) whole ∙ map-append (new_outcome book) first later)
  both_are (Ok a) (Err e) (Ok all) of_first of_later joined = absurd joined
  both_are (Err e) s (Ok all) of_first of_later joined = absurd joined
  both_are r s (Err e) of_first of_later joined = tt

  -- the outcomes of all pages are those of both parts
  pub both_found : {A E : Type 0} (r s t : Result (Vec Outcomes A) E) → (WereFound book first → IfOk r (λ all. all.items ≡ new_outcomes book first))
      → (WereFound book later → IfOk s (λ all. all.items ≡ new_outcomes book later)) → IfOk t (λ all. IsOkAnd r (λ a. IsOkAnd s (λ b. all.items ≡ a.items ++ b.items)))
      → WereFound book pages → IfOk t (λ all. all.items ≡ new_outcomes book pages)
  both_found r s t of_first of_later joined found = both_are r s t (of_first (found_first found)) (of_later (found_later found)) joined

  pub both_many : {A E : Type 0} (r s t : Result (Vec Outcomes A) E) → IfOk r (λ all. length all.items ≡ length first) → IfOk s (λ all. length all.items ≡ length later)
      → IfOk t (λ all. IsOkAnd r (λ a. IsOkAnd s (λ b. all.items ≡ a.items ++ b.items))) → IfOk t (λ all. length all.items ≡ length pages)
  both_many (Ok a) (Ok b) (Ok all) of_first of_later joined =
      ap length joined ∙ length-append a.items b.items ∙ ap (λ n. n + length b.items) of_first ∙ ap (λ n. length first + n) of_later ∙ sym (ap length whole ∙ length-append first later)
  both_many (Ok a) (Err e) (Ok all) of_first of_later joined = absurd joined
  both_many (Err e) s (Ok all) of_first of_later joined = absurd joined
  both_many r s (Err e) of_first of_later joined = tt

  -- and so is what they cost
  pub both_counted : (old_first new_first old_later new_later old new : ℕ) → (WereFound book first → new_first ≤ old_first + reached_pairs book first)
      → (WereFound book later → new_later ≤ old_later + reached_pairs book later) → old ≡ old_first + old_later → new ≡ new_first + new_later
      → WereFound book pages → new ≤ old + reached_pairs book pages
  both_counted old_first new_first old_later new_later old new of_first of_later before after found =
      omega (arith, of_first (found_first found), of_later (found_later found), ap (reached_pairs book) whole, sum_by-append (λ (w : ReWork). length (affected book w.old w.new)) first later)

  pub both_within : (old_first new_first old_later new_later old new : ℕ) → new_first ≤ old_first + most_judgings book first → new_later ≤ old_later + most_judgings book later
      → old ≡ old_first + old_later → new ≡ new_first + new_later → new ≤ old + most_judgings book pages
  both_within old_first new_first old_later new_later old new of_first of_later before after =
      omega (arith, of_first, of_later, ap (most_judgings book) whole, sum_by-append (λ (w : ReWork). judgings book w.new) first later)
