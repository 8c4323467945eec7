use Rattle.std.proofs.Common.{sym, ◌∙◌}
use Rattle.json_parts.proofs.Objects.{are_members}
use Rattle.json_parts.proofs.members.cut_object.Goals as goal

pub returns-then-is_empty : goal.returns-then-is_empty
returns-then-is_empty c =
    let keys = c.args.keys.now in
    are_members keys.first.now c.in_ok-first.first.now keys.second.now c.in_ok-second.second.now keys.third.now c.in_ok-third.third.now keys.last.now c.args.whole.now c.in_ok-after.field-0.now c.in_ok-first.rest.now c.in_ok-second.rest.now
    c.in_ok-third.rest.now c.in_ok-after_key.field-0.now c.in_ok-value.value.now c.in_ok-last.last.now c.in_ok-last.end.now c.after_spaces.result.now c.in_ok-after.ensures c.in_ok-first.ensures c.in_ok-second.ensures c.in_ok-third.ensures
    c.in_ok-after_key.ensures c.in_ok-value.ensures c.in_ok-last.ensures c.after_spaces.ensures (sym c.is_empty.ensures ∙ c.if-is_empty.true)
