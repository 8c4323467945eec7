-- The judgements of a table.
use Rattle.std.specs.Prelude.{ℕ, List, []}
use Rattle.std.specs.Borrow.{Bor}
use Rattle.rule_core.specs.declared.verdict.Auto.{Auto}
use Rattle.judge_core.specs.declared.judgement.Judgement.{Judgement}

-- a rule, a node, an evidence, a verdict and who judged, without a note
abbrev pub judgement_of : ℕ × ℕ × Bor (List ℕ) × Auto × Bor (List ℕ) → Judgement
judgement_of row =
    record { rule = record { 0 = row.0 }; node = record { 0 = row.1 }; verdict = row.3; hand = row.4.now; note = []; evidence = row.2.now }
