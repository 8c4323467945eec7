-- The judgements of a page as people are shown them. A judgement counts where an outcome of the page is by it: where it is the latest
-- of the outcome's rule, node and evidence, and the rule alone can't tell.
use Rattle.std.specs.Prelude.{◌≡◌, ℕ, suc, List, [], ◌∷◌, ◌==◌, ◌||◌, Bool, false, Option, option_map, slice_get}
use Rattle.std.specs.Option.{option_map_or}
use Rattle.std.specs.List.{list_any}
use Rattle.judge_core.specs.declared.judgement.Judgement.{Judgement}
use Rattle.judge_core.specs.declared.outcomes.OutRow.{OutRow}
use Rattle.judge_core.specs.Judgements.{counting_place}
use Rattle.kept_verdicts.specs.declared.verdicts.KeptVerdict.{KeptVerdict}

-- this is the place
abbrev pub is_place : Option ℕ → ℕ → Bool
is_place place p = option_map_or (λ q. q == p) place false

-- the outcome of a row is by the judgement at a place
abbrev pub shows : List Judgement → ℕ → OutRow → Bool
shows js p row = is_place (counting_place row.auto row.rule row.node row.evidence js) p

abbrev pub counts : List OutRow → List Judgement → ℕ → Bool
counts rows js p = list_any (shows js p) rows

-- the judgements from a place on, each with whether it counts
abbrev pub verdicts_from : List OutRow → List Judgement → ℕ → List Judgement → List KeptVerdict
verdicts_from rows js p [] = []
verdicts_from rows js p (j ∷ later) = record { judgement = j; counts = counts rows js p } ∷ verdicts_from rows js (suc p) later

-- the judgements of a page with these outcomes
abbrev pub verdicts : List OutRow → List Judgement → List KeptVerdict
verdicts rows js = verdicts_from rows js 0 js

-- ---- marks, which are made row by row

-- a place more is marked, where it is one of the list's
abbrev pub HasMarked : List Bool → Option ℕ → List Bool → Type 0
HasMarked old place new = (p : ℕ) → slice_get new p ≡ option_map (λ m. m || is_place place p) (slice_get old p)

-- the places of the judgements that count are marked, and no others
abbrev pub AreMarked : List OutRow → List Judgement → List Bool → Type 0
AreMarked rows js marks = (p : ℕ) → slice_get marks p ≡ option_map (λ j. counts rows js p) (slice_get js p)

abbrev pub verdict_of : Judgement × Bool → KeptVerdict
verdict_of pair = record { judgement = pair.0; counts = pair.1 }
