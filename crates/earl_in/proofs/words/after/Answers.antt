use Rattle.earl_in.proofs.Fronts.{stripped}
use Rattle.earl_in.proofs.words.after.Goals as goal

pub returns : goal.returns
returns c = stripped c.args.front.now c.args.text.now c.strip_prefix.result c.strip_prefix.ensures.cases
