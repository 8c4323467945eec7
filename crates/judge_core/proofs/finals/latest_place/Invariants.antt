use Rattle.std.proofs.Common.{◌≡◌, take}
use Rattle.judge_core.specs.Judgements.{is_of, last_place}
use Rattle.judge_core.proofs.finals.latest_place.Given as goal

abbrev pub invariant-loop-place : goal.invariant-loop-place
invariant-loop-place l = l.latest ≡ last_place (is_of l.rule l.n l.evidence) (take l.place l.js)
