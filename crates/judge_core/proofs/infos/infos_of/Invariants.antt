use Rattle.std.proofs.Common.{◌≡◌, take}
use Rattle.judge_core.proofs.infos.infos_of.Given as goal

abbrev pub invariant-loop-place : goal.invariant-loop-place
invariant-loop-place g l = l.infos.items ≡ take l.place g.B.RuleBook.book.infos
