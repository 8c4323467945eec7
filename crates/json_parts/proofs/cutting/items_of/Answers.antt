use Rattle.json_parts.proofs.Cuts.{cut_more}
use Rattle.json_parts.proofs.cutting.items_of.Goals as goal

pub loop-part-preserved : goal.loop-part-preserved
loop-part-preserved c =
    cut_more c.loop-part.parts.items c.push.new.self.items c.in-Some.part c.loop-part.rest.now c.in-Some.later.now c.args.list.now c.in_ok-push.ensures.items c.in-Some.ensures c.loop-part.invariant
