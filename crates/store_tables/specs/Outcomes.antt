-- The table of outcomes: a site, a page, a place in its list, a rule, a node, the automatic outcome, its reason and
-- evidence, the final outcome, and the hand that it is of.
use Rattle.std.specs.Prelude.{◌≡◌, ℕ, suc, pos, List, [], ◌∷◌, Option, Some, option_map}
use Rattle.sqlite_value.specs.declared.value.Value.TheVariants.{Int, Text}
use Rattle.sqlite_value.specs.Order.{Row, column}
use Rattle.named_rows.specs.ByName.{put_rows}
use Rattle.rule_core.specs.Words.{word_of}
use Rattle.judge_core.specs.declared.outcomes.OutRow.{OutRow}
use Rattle.judge_core.specs.declared.outcomes.Outcomes.{Outcomes}
use Rattle.sql_rows.specs.Tables.{name_at}
use Rattle.store_statements.specs.declared.outcomes.OutcomeRow.{OutcomeRow}
use Rattle.store_tables.specs.Reading.{◌>>=◌, read_counted}
use Rattle.store_tables.specs.Cells.{number_in, place_in, text_in, auto_in, reason_in, auto_number}

-- as it is written at a place
abbrev pub outcome_cells : List ℕ → List ℕ → ℕ → OutRow → Row
outcome_cells site page place o =
    Text site ∷ Text page ∷ Int (pos place) ∷ Int (pos o.rule.0) ∷ Int (pos o.node.0) ∷ Int (pos (auto_number o.auto)) ∷ Text (word_of o.reason)
    ∷ Text o.evidence ∷ Int (pos (auto_number o.last)) ∷ Text o.hand ∷ []

-- outcomes, the first at this place
abbrev pub outcomes_cells : List ℕ → List ℕ → ℕ → List OutRow → List Row
outcomes_cells site page place [] = []
outcomes_cells site page place (o ∷ os) = outcome_cells site page place o ∷ outcomes_cells site page (suc place) os

-- the rows of a page's outcomes, counted from 1
abbrev pub outcome_rows : List ℕ → List ℕ → Outcomes → List Row
outcome_rows site page outcomes = put_rows (name_at 2) (outcomes_cells site page 1 outcomes.rows) []

-- as it is given to the statement that writes it
pub record IsOutcomeRow (place : ℕ) (o : OutRow) (row : OutcomeRow) : Type 0 where
  pub seq : row.seq ≡ pos place
  pub rule : row.rule ≡ pos o.rule.0
  pub node : row.node ≡ pos o.node.0
  pub auto : row.auto ≡ pos (auto_number o.auto)
  pub reason : row.reason.now ≡ word_of o.reason
  pub evidence : row.evidence.now ≡ o.evidence
  pub last : row.last ≡ pos (auto_number o.last)
  pub hand : row.hand.now ≡ o.hand

-- as it is read at a place, where all but the site and the page is shown
unfoldable pub outcome_from : ℕ → Row → Option OutRow
outcome_from place c = do
  seq ← place_in place (column c 0)
  rule ← number_in 65535 (column c 1)
  node ← number_in 4294967295 (column c 2)
  auto ← auto_in (column c 3)
  reason ← reason_in (column c 4)
  evidence ← text_in (column c 5)
  last ← auto_in (column c 6)
  hand ← text_in (column c 7)
  Some (record { rule = record { 0 = rule }; node = record { 0 = node }; auto = auto; reason = reason; evidence = evidence; last = last; hand = hand })

-- places are counted from 1
abbrev pub outcomes_shown : List Row → Option Outcomes
outcomes_shown rows = option_map (λ rows. record { rows = rows }) (read_counted outcome_from 1 rows)
