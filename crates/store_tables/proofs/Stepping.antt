-- What texts one after another make of the rows of a group, as one change.
use Rattle.std.proofs.Common.{ℕ, List, [], ◌∷◌, ap, ◌∙◌}
use Rattle.sqlite_value.specs.Order.{Row}
use Rattle.sql_rows.specs.Changes.{Changes}
use Rattle.store_statements.specs.Stored.{Stored}
use Rattle.store_statements.specs.Changes.{ChangesJudgements, ChangesOutcomes, ChangesEditions, ChangesLanguages}

pub changes_through : (group : List (List ℕ)) (f g : List Row → List Row) (a b c : List Row) → Changes group f a b → Changes group g b c → Changes group (λ rows. g (f rows)) a c
changes_through group f g a b c first second = record { there = second.there ∙ ap g first.there; elsewhere = second.elsewhere ∙ first.elsewhere }

module _ (a b c : Stored) (f g : List Row → List Row) where
  pub judgements_through : (site page : List ℕ) → ChangesJudgements site page f a b → ChangesJudgements site page g b c → ChangesJudgements site page (λ rows. g (f rows)) a c
  judgements_through site page first second =
      (second.0 ∙ ap (λ (s : Stored). record s { judgements = c.judgements }) first.0, changes_through (site ∷ page ∷ []) f g a.judgements b.judgements c.judgements first.1 second.1)

  pub editions_through : ChangesEditions f a b → ChangesEditions g b c → ChangesEditions (λ rows. g (f rows)) a c
  editions_through first second =
      (second.0 ∙ ap (λ (s : Stored). record s { editions = c.editions }) first.0, changes_through [] f g a.editions b.editions c.editions first.1 second.1)

  pub languages_through : (site : List ℕ) → ChangesLanguages site f a b → ChangesLanguages site g b c → ChangesLanguages site (λ rows. g (f rows)) a c
  languages_through site first second =
      (second.0 ∙ ap (λ (s : Stored). record s { languages = c.languages }) first.0, changes_through (site ∷ []) f g a.languages b.languages c.languages first.1 second.1)

pub outcomes_through : (site page : List ℕ) (a b c : Stored) (f g : List Row → List Row) → ChangesOutcomes site page f a b → ChangesOutcomes site page g b c → ChangesOutcomes site page (λ rows. g (f rows)) a c
outcomes_through site page a b c f g first second =
    (second.0 ∙ ap (λ (s : Stored). record s { outcomes = c.outcomes }) first.0, changes_through (site ∷ page ∷ []) f g a.outcomes b.outcomes c.outcomes first.1 second.1)
