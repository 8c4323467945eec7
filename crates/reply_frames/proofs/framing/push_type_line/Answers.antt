use Rattle.std.proofs.Common.{◌≡◌, ◌++◌, codes, ap, ◌∙◌, append_assoc}
use Rattle.reply_frames.specs.Frames.{kind_text, line_end, type_line}
use Rattle.reply_frames.proofs.framing.push_type_line.Goals as goal

pub returns-clause-pushed : goal.returns-clause-pushed
unfolding type_line
returns-clause-pushed c =
    let old = c.args.out.now.items in
    let name = codes "content-type: " in
    let word : c.as_bytes.result.now ≡ kind_text c.args.kind = c.as_bytes.ensures.value ∙ c.text.ensures.text in
    c.in_ok-push-3.ensures.pushed
    ∙ ap (λ l. l ++ line_end) (c.in_ok-push-2.ensures.pushed ∙ ap (λ l. l ++ c.as_bytes.result.now) c.in_ok-push.ensures.pushed ∙ ap (λ w. (old ++ name) ++ w) word)
    ∙ append_assoc (old ++ name) (kind_text c.args.kind) line_end ∙ append_assoc old name (kind_text c.args.kind ++ line_end)
