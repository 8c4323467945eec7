-- The table of judgements: a site, a page, a place in its list, a rule, a node, a verdict, a hand, a note and evidence.
use Rattle.std.specs.Prelude.{◌≡◌, ℕ, pos, List, [], ◌∷◌, Option, Some}
use Rattle.sqlite_value.specs.declared.value.Value.TheVariants.{Int, Text}
use Rattle.sqlite_value.specs.Order.{Row, column}
use Rattle.judge_core.specs.declared.judgement.Judgement.{Judgement}
use Rattle.store_statements.specs.declared.judgements.JudgementRow.{JudgementRow}
use Rattle.store_tables.specs.Reading.{◌>>=◌, read_counted}
use Rattle.store_tables.specs.Cells.{number_in, place_in, text_in, auto_in, auto_number}

-- as it is written at a place
abbrev pub judgement_cells : List ℕ → List ℕ → ℕ → Judgement → Row
judgement_cells site page place j =
    Text site ∷ Text page ∷ Int (pos place) ∷ Int (pos j.rule.0) ∷ Int (pos j.node.0) ∷ Int (pos (auto_number j.verdict))
    ∷ Text j.hand ∷ Text j.note ∷ Text j.evidence ∷ []

-- as it is given to the statement that writes it
pub record IsJudgementRow (place : ℕ) (j : Judgement) (row : JudgementRow) : Type 0 where
  pub seq : row.seq ≡ pos place
  pub rule : row.rule ≡ pos j.rule.0
  pub node : row.node ≡ pos j.node.0
  pub verdict : row.verdict ≡ pos (auto_number j.verdict)
  pub hand : row.hand.now ≡ j.hand
  pub note : row.note.now ≡ j.note
  pub evidence : row.evidence.now ≡ j.evidence

-- as it is read at a place, where all but the site and the page is shown
unfoldable pub judgement_from : ℕ → Row → Option Judgement
judgement_from place c = do
  seq ← place_in place (column c 0)
  rule ← number_in 65535 (column c 1)
  node ← number_in 4294967295 (column c 2)
  verdict ← auto_in (column c 3)
  hand ← text_in (column c 4)
  note ← text_in (column c 5)
  evidence ← text_in (column c 6)
  Some (record { rule = record { 0 = rule }; node = record { 0 = node }; verdict = verdict; hand = hand; note = note; evidence = evidence })

-- places are counted from 1
abbrev pub judgements_shown : List Row → Option (List Judgement)
judgements_shown rows = read_counted judgement_from 1 rows
