use Rattle.std.proofs.Common.{◌≡◌, map, take}
use Rattle.http_messages.specs.Parsing.{field_at}
use Rattle.http_messages.proofs.parse.fields_of.Given as goal

abbrev pub invariant-loop-span : goal.invariant-loop-span
invariant-loop-span l = l.fields.items ≡ map (field_at l.block) (take l.span-index l.spans)
