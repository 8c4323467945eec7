use Rattle.std.proofs.Common.{◌≡◌, map, take}
use Rattle.std.specs.Option.{option_copied}
use Rattle.judge_core.specs.Judgements.{latest}
use Rattle.judged_rows.proofs.on_node.latest_among.Given as goal

abbrev pub invariant-loop-judgement : goal.invariant-loop-judgement
invariant-loop-judgement l = option_copied l.latest ≡ latest l.rule l.node l.evidence (map (λ j. j.now) (take l.judgement-index l.judgements))
