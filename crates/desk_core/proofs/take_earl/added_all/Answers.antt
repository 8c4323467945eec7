use Rattle.std.proofs.Common.{Some}
use Rattle.desk_core.proofs.JudgeLaws.{answered_on}
use Rattle.desk_core.proofs.take_earl.added_all.Goals as goal

pub returns-clause-judges : goal.returns-clause-judges
returns-clause-judges g c =
    answered_on c.args.site c.args.page (record { change = Some c.in_ok-change.change; reply = c.reply_of-reply.result }) _ c.reply_of-reply.ensures tt tt
    c.in_ok-change.ensures.adds
