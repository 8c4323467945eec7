use Rattle.std.proofs.Common.{sym, ◌∙◌}
use Rattle.json_parts.proofs.Fronts.{holds}
use Rattle.json_parts.proofs.front.list_in.Goals as goal

pub returns-then-is_empty : goal.returns-then-is_empty
returns-then-is_empty c =
    holds c.args.key.now c.args.text.now c.in_ok-members.members.now c.in_ok-after_key.field-0.now c.in_ok-value.value.now c.in_ok-after.field-0.now c.in_ok-list.list.now c.in_ok-list.end.now c.in_ok-after-2.field-0.now c.after_spaces-rest.result.now
    c.in_ok-members.ensures c.in_ok-after_key.ensures c.in_ok-value.ensures c.in_ok-after.ensures c.in_ok-list.ensures c.in_ok-after-2.ensures c.after_spaces-rest.ensures (sym c.is_empty.ensures ∙ c.if-is_empty.true)
