use Rattle.std.proofs.Common.{arith}
use Rattle.std.proofs.lemmas.Grind.{common_steps}
use Rattle.judged_rows.proofs.on_node.put.Goals as goal

pub returns : goal.returns
returns c = λ n. grind (arith, common_steps)
