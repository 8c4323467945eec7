use Rattle.std.proofs.Common.{◌≡◌, map, take}
use Rattle.fixture_rules.specs.Judged.{judgement_of}
use Rattle.fixture_rules.proofs.judged.judgements.Given as goal

abbrev pub invariant-loop-row : goal.invariant-loop-row
invariant-loop-row l = l.list.items ≡ map judgement_of (take l.row-index l.judged)
