use Rattle.json_parts.proofs.Read.{is_part, no_part}
use Rattle.json_parts.proofs.part.read_part.Goals as goal

pub returns-in-Ok : goal.returns-in-Ok
returns-in-Ok c = is_part c.args.part.now c.in-Ok.text.now c.read_text.result c.in-Ok.ensures.cases.0 c.in-Ok.ensures.cases.1 c.read_text.ensures

pub returns-in-Err : goal.returns-in-Err
returns-in-Err c = no_part c.args.part.now c.in-Err.ensures.cases.0
