-- What taking comes to, whatever was sent in which order.
use Rattle.std.specs.Prelude.{◌≡◌, ℕ, List, true, Option}
use Rattle.std.specs.List.{Any}
use Rattle.std.specs.Option.{IsSomeAnd}
use Rattle.snap_tree.specs.declared.row.NodeId.{NodeId}
use Rattle.rule_core.specs.declared.info.RuleNo.{RuleNo}
use Rattle.rule_core.specs.declared.verdict.Auto.{Auto}
use Rattle.rule_core.specs.Brief.{digest}
use Rattle.judge_core.specs.declared.judgement.Judgement.{Judgement}
use Rattle.judge_core.specs.declared.outcomes.OutRow.{OutRow}
use Rattle.judge_core.specs.Composites.{is_open}
use Rattle.judge_core.specs.RowLookups.{row_at}
use Rattle.earl_in.specs.declared.claim.Claim.{Claim}

-- the judgement is by this hand, on an open row of these, and of the row's evidence
pub record IsJudged (rows : List OutRow) (hand : List ℕ) (j : Judgement) : Type 0 where
  pub by_hand : j.hand ≡ hand
  pub row : IsSomeAnd (row_at j.rule j.node rows) (λ row. (is_open row.auto ≡ true) × (j.evidence ≡ row.evidence))

-- the claim is of the page at this address, and says what the judgement says, by the digest of its evidence
pub record Says (address : List ℕ) (j : Judgement) (c : Claim) : Type 0 where
  pub subject : c.subject ≡ address
  pub rule : c.rule ≡ j.rule
  pub node : c.node ≡ j.node
  pub verdict : c.verdict ≡ j.verdict
  pub note : c.note ≡ j.note
  pub seen : c.digest ≡ digest j.evidence

-- some claim that was sent says so
abbrev pub IsSent : List ℕ → List (Option Claim) → Judgement → Type 0
IsSent address claims j = Any (λ claim. IsSomeAnd claim (Says address j)) claims

-- what was found of a rule on a node, without what people judged
pub record Automatic : Type 0 where
  pub rule : RuleNo
  pub node : NodeId
  pub auto : Auto
  pub evidence : List ℕ

abbrev pub automatic : OutRow → Automatic
automatic row = record { rule = row.rule; node = row.node; auto = row.auto; evidence = row.evidence }
