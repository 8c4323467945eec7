use Rattle.judge_core.proofs.Lists.{take_more_some}
use Rattle.judge_core.proofs.infos.infos_of.Goals as goal

pub loop-place-preserved : goal.loop-place-preserved
loop-place-preserved g c =
    take_more_some g.B.RuleBook.book.infos c.loop-place.place c.in-Some.info c.loop-place.infos.items c.push.new.self.items c.loop-place.invariant c.in_ok-push.ensures.items c.in-Some.ensures
