use Rattle.json_parts.proofs.Read.{is_such, no_such}
use Rattle.json_parts.proofs.part.is_inner.Goals as goal

pub returns-in-Ok : goal.returns-in-Ok
returns-in-Ok c = is_such c.args.bytes.now c.in-Ok.text.now c.is_shallow.result c.in-Ok.ensures.cases.0 c.in-Ok.ensures.cases.1 c.is_shallow.ensures

pub returns-in-Err : goal.returns-in-Err
returns-in-Err c = no_such c.args.bytes.now c.in-Err.ensures.cases.0
