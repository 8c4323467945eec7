-- Pages that are audited anew, each by the outcomes of its old tree.
use Rattle.std.specs.Prelude.{◌≡◌, ℕ, List, length, map, sum_by}
use Rattle.std.specs.List.{All}
use Rattle.rule_core.specs.Books.{Book}
use Rattle.rule_core.specs.Reach.{affected}
use Rattle.judge_core.specs.declared.outcomes.Outcomes.{Outcomes}
use Rattle.judge_core.specs.Outcomes.{outcomes, judgings}
use Rattle.reaudit.specs.declared.pages.ReWork.{ReWork}

-- both trees of each page have one address
abbrev pub AreVersions : List ReWork → Type 0
AreVersions pages = All (λ (w : ReWork). w.old.address ≡ w.new.address) pages

-- each page's rows are those of its old tree under its judgements
abbrev pub WereFound : Book → List ReWork → Type 0
WereFound book pages = All (λ (w : ReWork). w.rows.rows ≡ outcomes book w.old w.judgements) pages

-- the outcomes of each page's new tree under its judgements, in the order of the pages
abbrev pub new_outcome : Book → ReWork → Outcomes
new_outcome book w = record { rows = outcomes book w.new w.judgements }

abbrev pub new_outcomes : Book → List ReWork → List Outcomes
new_outcomes book pages = map (new_outcome book) pages

-- the pairs of an atomic rule and a node on which a page's trees differ for the rule, of all pages
abbrev pub reached_pairs : Book → List ReWork → ℕ
reached_pairs book pages = sum_by (λ w. length (affected book w.old w.new)) pages

-- the judgings of all new trees
abbrev pub most_judgings : Book → List ReWork → ℕ
most_judgings book pages = sum_by (λ w. judgings book w.new) pages
