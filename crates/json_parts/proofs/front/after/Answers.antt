use Rattle.json_parts.proofs.Fronts.{operator_first}
use Rattle.json_parts.proofs.front.after.Goals as goal

pub returns-in-Some : goal.returns-in-Some
returns-in-Some c =
    operator_first c.args.byte c.in-Some.first.now c.args.text.now c.after_spaces.result.now c.in-Some.rest.now c.requires c.after_spaces.ensures c.in-Some.ensures.cases.0 c.if-first-byte.true
