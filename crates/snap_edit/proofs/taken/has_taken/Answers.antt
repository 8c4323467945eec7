use Rattle.std.proofs.Common.{◌∙◌}
use Rattle.snap_edit.proofs.Numbers.{taken_is}
use Rattle.snap_edit.proofs.taken.has_taken.Goals as goal

pub returns : goal.returns
returns c = c.has_any.ensures ∙ taken_is c.in_ok-numbers.numbers c.args.new.now c.args.rows.now c.in_ok-numbers.ensures
