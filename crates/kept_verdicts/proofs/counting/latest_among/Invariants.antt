use Rattle.std.proofs.Common.{◌≡◌, take}
use Rattle.judge_core.specs.Judgements.{is_of}
use Rattle.kept_verdicts.specs.Latest.{latest_of}
use Rattle.kept_verdicts.proofs.counting.latest_among.Given as goal

abbrev pub invariant-loop-place : goal.invariant-loop-place
invariant-loop-place l = l.latest ≡ latest_of (is_of l.row.rule l.row.node l.row.evidence) l.js (take l.place-index l.places)
