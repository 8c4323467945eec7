-- Pages that are audited anew one after another.
use Rattle.std.proofs.Common.{◌≡◌, ℕ, ◌+◌, ◌≤◌, ◌<◌, List, [], ◌∷◌, ◌++◌, length, take, get_or, sum_by, sym, ap, ◌∙◌, subst, arith}
use Rattle.std.proofs.lemmas.List.{take_more, map_push}
use Rattle.std.proofs.lemmas.List.Sums.{sum_by_push, sum_by-take-le}
use Rattle.rule_core.specs.Books.{Book}
use Rattle.rule_core.specs.Reach.{affected}
use Rattle.judge_core.specs.declared.judgement.Judgement.{Judgement}
use Rattle.judge_core.specs.declared.outcomes.Outcomes.{Outcomes}
use Rattle.judge_core.specs.declared.outcomes.OutRow.{OutRow}
use Rattle.judge_core.specs.Outcomes.{outcomes, judgings}
use Rattle.reaudit.specs.declared.pages.ReWork.{ReWork}
use Rattle.reaudit.specs.Pages.{AreVersions, WereFound, new_outcome, new_outcomes, reached_pairs, most_judgings}
use Rattle.reaudit.proofs.Halves.{IsVersion, WasFound}

pairs_of : Book → ReWork → ℕ
pairs_of book w = length (affected book w.old w.new)

judgings_of : Book → ReWork → ℕ
judgings_of book w = judgings book w.new

module _ (book : Book) (pages : List ReWork) (i : ℕ) (w : ReWork) (inside : i < length pages) (is : w ≡ get_or pages i w) where
  taken : take (i + 1) pages ≡ take i pages ++ w ∷ []
  taken = take_more pages i w inside ∙ ap (λ v. take i pages ++ v ∷ []) (sym is)

  here : WereFound book pages → w.rows.rows ≡ outcomes book w.old w.judgements
  here found = subst (WasFound book) (sym is) (found i w inside)

  pub version_here : AreVersions pages → w.old.address ≡ w.new.address
  version_here all = subst IsVersion (sym is) (all i w inside)

  pub outcomes_more : (js : List Judgement) (all next : List Outcomes) (o : Outcomes) → js ≡ w.judgements → (WereFound book pages → all ≡ new_outcomes book (take i pages))
      → ((earlier : List Judgement) → w.rows.rows ≡ outcomes book w.old earlier → o.rows ≡ outcomes book w.new js) → next ≡ all ++ o ∷ []
      → WereFound book pages → next ≡ new_outcomes book (take (i + 1) pages)
  outcomes_more js all next o same so_far rows pushed found =
      let one : o ≡ new_outcome book w =
      ap (λ (r : List OutRow). let x : Outcomes = record { rows = r } in x) (rows w.judgements (here found) ∙ ap (outcomes book w.new) same) in
      pushed ∙ ap (λ os. os ++ o ∷ []) (so_far found) ∙ ap (λ x. new_outcomes book (take i pages) ++ x ∷ []) one
      ∙ sym (ap (new_outcomes book) taken ∙ map_push (new_outcome book) (take i pages) w)

  pub reached_more : (start before now : ℕ) → (WereFound book pages → before ≤ start + reached_pairs book (take i pages))
      → ((earlier : List Judgement) → w.rows.rows ≡ outcomes book w.old earlier → now ≤ before + length (affected book w.old w.new))
      → WereFound book pages → now ≤ start + reached_pairs book (take (i + 1) pages)
  unfolding pairs_of
  reached_more start before now so_far counted found =
      omega (arith, so_far found, counted w.judgements (here found), ap (sum_by (pairs_of book)) taken, sum_by_push (pairs_of book) (take i pages) w)

  pub judged_more : (start before now : ℕ) → before ≤ start + most_judgings book (take i pages) → now ≤ before + judgings book w.new → now ≤ start + most_judgings book (take (i + 1) pages)
  unfolding judgings_of
  judged_more start before now so_far within =
      omega (arith, so_far, within, ap (sum_by (judgings_of book)) taken, sum_by_push (judgings_of book) (take i pages) w)

-- some of the pages cost no more than all
pub reached_within : (book : Book) (pages : List ReWork) (n : ℕ) (start now : ℕ) → now ≤ start + reached_pairs book (take n pages) → now ≤ start + reached_pairs book pages
unfolding pairs_of
reached_within book pages n start now some = omega (arith, some, sum_by-take-le (pairs_of book) pages n)

pub judged_within : (book : Book) (pages : List ReWork) (n : ℕ) (start now : ℕ) → now ≤ start + most_judgings book (take n pages) → now ≤ start + most_judgings book pages
unfolding judgings_of
judged_within book pages n start now some = omega (arith, some, sum_by-take-le (judgings_of book) pages n)
