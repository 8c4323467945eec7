use Rattle.std.proofs.Common.{◌∙◌, sym, ap}
use Rattle.texts.specs.Words.{blank}
use Rattle.acc_name.proofs.Blanks.{blank_nothing}
use Rattle.acc_name.proofs.naming.alone.Goals as goal

pub say-requires-clause-blank : goal.say-requires-clause-blank
say-requires-clause-blank c = sym (ap blank c.new-content.ensures.bytes ∙ blank_nothing)
