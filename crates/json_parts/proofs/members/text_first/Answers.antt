use Rattle.json_parts.proofs.Fronts.{text_before}
use Rattle.json_parts.proofs.members.text_first.Goals as goal

pub returns-in-Ok : goal.returns-in-Ok
returns-in-Ok c =
    text_before c.plain_front.result c.args.text.now c.after_spaces.result.now c.in_ok-quoted.quoted.now c.split_at.result.0.now c.in-Ok.found.now c.split_at.result.1.now c.in_ok-rest.rest.now c.plain_front.ensures.plain c.split_at.ensures.front c.in-Ok.ensures.cases.0
    c.in-Ok.ensures.cases.1 c.after_spaces.ensures c.in_ok-quoted.ensures c.split_at.ensures.by_index.0 c.in_ok-rest.ensures
