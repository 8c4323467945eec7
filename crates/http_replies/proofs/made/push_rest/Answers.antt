use Rattle.std.proofs.Common.{◌≡◌, ◌+◌, List, [], ◌∷◌, ◌++◌, take, arith}
use Rattle.std.proofs.lemmas.Grind.{common_steps}
use Rattle.desk_core.specs.declared.reply.Stored.{Stored}
use Rattle.http_replies.proofs.MadeBodies.{printed_more}
use Rattle.http_replies.proofs.made.push_rest.Goals as goal

pub loop-stored-preserved : goal.loop-stored-preserved
loop-stored-preserved c =
    let i = c.loop-stored.invariant in
    let now = c.in_ok-push_next.ensures in
    let short = i.short in
    let grown = now.fits.grown in
    let pages : List Stored = c.args.pages.now in
    let before : List Stored = take c.loop-stored.stored-index pages in
    let after : List Stored = take (c.loop-stored.stored-index + 1) pages in
    let item : Stored = c.stored-item.result in
    let is = c.stored-item.is in
    let step : after ≡ before ++ item ∷ [] = grind (arith, common_steps, is) in
    record {
      printed = printed_more c.args.out.now.items c.loop-stored.out.items c.push_next.new.out.items before after item step i.printed now.pushed;
      short = omega (arith, short, grown);
      kept = omega (arith, i.kept, now.fits.kept);
    }
