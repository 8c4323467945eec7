use Rattle.std.proofs.Common.{◌∙◌, ap}
use Rattle.texts.specs.Words.{tidy}
use Rattle.acc_name.proofs.Trimmed.{tidy_trim}
use Rattle.acc_name.proofs.tidying.trimmed.Goals as goal

pub returns : goal.returns
returns c = ap tidy c.trim.ensures.trim ∙ tidy_trim c.args.text.now c.utf8.text
