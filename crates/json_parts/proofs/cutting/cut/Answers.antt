use Rattle.json_parts.proofs.Wholes.{are_parts}
use Rattle.json_parts.proofs.cutting.cut.Goals as goal

pub returns-in_ok-items_of-in-Some : goal.returns-in_ok-items_of-in-Some
returns-in_ok-items_of-in-Some c =
    are_parts c.args.key.now c.args.whole.now c.in-Some.list.now c.in_ok-items_of-in-Some.field-0.items c.in-Some.ensures c.in_ok-items_of-in-Some.ensures.joined c.in_ok-items_of-in-Some.ensures.some
