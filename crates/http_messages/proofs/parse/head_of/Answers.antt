use Rattle.std.proofs.Common.{map, ap, ◌∙◌}
use Rattle.http_messages.specs.Parsing.{field_at}
use Rattle.http_messages.proofs.HeadLaws.{seen_at}
use Rattle.http_messages.proofs.parse.head_of.Goals as goal

pub returns : goal.returns
returns c h at =
    seen_at c.args.block.now c.args.fields.now c.args.spans.now h _ _ _ _ at c.version_of.ensures
    (c.in_ok-list_of.ensures ∙ c.of.ensures) (c.in_ok-list_of-2.ensures ∙ c.of-2.ensures) (c.in_ok-fields_of.ensures ∙ ap (map (field_at c.args.block.now)) c.split_at.ensures.front)
