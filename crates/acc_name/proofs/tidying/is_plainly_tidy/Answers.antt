use Rattle.std.proofs.Common.{◌==◌}
use Rattle.acc_name.proofs.Plain.{plain-all}
use Rattle.acc_name.proofs.tidying.is_plainly_tidy.Goals as goal

pub returns : goal.returns
returns c = plain-all c.args.text.now c.loop-rest.rest.now c.loop-rest.plain (c.loop-rest.before == 32) c.in_default.len_below c.loop-rest.invariant
