use Rattle.std.proofs.Common.{refl, arith}
use Rattle.http_messages.proofs.Numbers.{digit, one_more}
use Rattle.http_messages.proofs.framing.number.Goals as goal

pub overflow_mul-n : goal.overflow_mul-n
overflow_mul-n c = omega (arith, (one_more c.args.digits.now c.loop-b.b-index c.loop-b.n _ c.requires c.loop-b-test.true c.loop-b.invariant refl).1)

pub overflow_sub-b : goal.overflow_sub-b
overflow_sub-b c = (digit c.args.digits.now c.loop-b.b-index c.requires c.loop-b-test.true).0

pub overflow_add-n : goal.overflow_add-n
overflow_add-n c = omega (arith, (one_more c.args.digits.now c.loop-b.b-index c.loop-b.n c.from.result c.requires c.loop-b-test.true c.loop-b.invariant c.from.ensures).1)

pub loop-b-preserved : goal.loop-b-preserved
loop-b-preserved c = (one_more c.args.digits.now c.loop-b.b-index c.loop-b.n c.from.result c.requires c.loop-b-test.true c.loop-b.invariant c.from.ensures).0
