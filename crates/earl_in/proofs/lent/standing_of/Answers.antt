use Rattle.std.proofs.Common.{take}
use Rattle.earl_in.specs.Standing.{owned}
use Rattle.earl_in.proofs.Held.{standing_more}
use Rattle.earl_in.proofs.lent.standing_of.Goals as goal

pub loop-judgement-preserved : goal.loop-judgement-preserved
loop-judgement-preserved c =
    let js = c.args.js.now in
    let i = c.loop-judgement.judgement-index in
    standing_more js i (owned c.of.result) c.judgement-item.result _ c.loop-judgement-test.true c.of.ensures c.judgement-item.is
    (c.in_ok-put.ensures (take i js) c.loop-judgement.invariant).stand
