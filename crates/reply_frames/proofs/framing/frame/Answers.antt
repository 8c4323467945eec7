use Rattle.std.proofs.Common.{◌≡◌, ◌++◌, length, take, drop, ap, ◌∙◌}
use Rattle.reply_frames.specs.Frames.{head, framed}
use Rattle.reply_frames.proofs.Heads.{turned}
use Rattle.reply_frames.proofs.framing.frame.Goals as goal

pub returns-clause-framed : goal.returns-clause-framed
unfolding framed
returns-clause-framed c =
    let old = c.args.out.now.items in
    let n = c.len-n.result in
    let of = head c.args.status c.args.kind c.args.closes in
    let whole : n ≡ length old = c.len-n.ensures ∙ c.args.out.now.ok.0 in
    turned old (of n) _ n whole (c.rotate_left.ensures.items ∙ ap (λ l. drop n l ++ take n l) c.in_ok-push_head.ensures.pushed) ∙ ap (λ k. of k ++ old) whole
