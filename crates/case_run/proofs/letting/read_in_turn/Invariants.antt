use Rattle.std.proofs.Common.{◌≡◌, drop}
use Rattle.case_run.specs.Apart.{texts_of, all_alone}
use Rattle.case_run.proofs.Listed.{added}
use Rattle.case_run.proofs.letting.read_in_turn.Given as goal

abbrev pub invariant-loop-part : goal.invariant-loop-part
invariant-loop-part l = added l.cases.items (all_alone l.infos (texts_of (drop l.part-index l.parts))) ≡ all_alone l.infos (texts_of l.parts)
