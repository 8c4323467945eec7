use Rattle.std.proofs.Common.{string_bytes, ◌∙◌}
use Rattle.std.proofs.lemmas.Str.{IsUtf8-string_bytes}
use Rattle.acc_name.proofs.Marks.{written_boundary, earlier_boundary}
use Rattle.acc_name.proofs.telling.settle.Goals as goal

pub split_at-requires : goal.split_at-requires
split_at-requires c =
    written_boundary (string_bytes c.args.content.now) _ c.as_str.result.now c.args.stand.mark (IsUtf8-string_bytes c.args.content.now) c.as_str.utf8 c.requires.mark
    (c.as_str.ensures.value ∙ c.in_ok-said.ensures.text)

pub keep-requires-clause-start : goal.keep-requires-clause-start
keep-requires-clause-start c =
    earlier_boundary (string_bytes c.args.content.now) _ (string_bytes c.say.new.content) c.args.stand.start c.args.stand.mark (IsUtf8-string_bytes c.args.content.now) (IsUtf8-string_bytes c.say.new.content)
    c.requires.start c.requires.mark c.requires.order c.in_ok-said.ensures.text

pub keep-requires-clause-mark : goal.keep-requires-clause-mark
keep-requires-clause-mark c =
    written_boundary (string_bytes c.args.content.now) _ (string_bytes c.say.new.content) c.args.stand.mark (IsUtf8-string_bytes c.args.content.now) (IsUtf8-string_bytes c.say.new.content) c.requires.mark
    c.in_ok-said.ensures.text
