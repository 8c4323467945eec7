use Rattle.keep_core.specs.declared.site.Site.{Site}
use Rattle.desk_core.specs.declared.command.Command.TheVariants.{GetMembers}
use Rattle.desk_core.specs.declared.reply.Reply.TheVariants as reply
use Rattle.desk_core.specs.Reading.{answered}
use Rattle.desk_core.specs.Steps.{Request}
use Rattle.desk_core.proofs.Onward.{decides_so}
use Rattle.desk_core.proofs.ToldLaws.{decides_told, decides_untold, members_shown}
use Rattle.desk_core.proofs.members_told.get_members.Goals as goal

pub returns : goal.returns
returns g c =
    λ book.
    let request : Request = record { caller = c.args.caller.now; command = GetMembers c.args.site.now } in
    decides_told book request (λ (s : Site). reply.Members s.members) _ _ c.in_ok-entered.entered c.members_reply.result c.members_reply.ensures tt c.in_ok-entered.ensures.reads
    (λ t told sound. members_shown c.args.caller.now c.args.site.now t c.in_ok-entered.entered (c.in_ok-entered.ensures.found t told))

pub returns-in_err-entered : goal.returns-in_err-entered
returns-in_err-entered g c =
    λ book.
    let request : Request = record { caller = c.args.caller.now; command = GetMembers c.args.site.now } in
    decides_so c.in_err-entered.field-0.0 c.from_residual.ensures.1
    (decides_untold book request (λ (s : Site). reply.Members s.members) _ _ c.in_err-entered.field-0.0 c.in_err-entered.ensures.reads
    (λ t told sound. c.in_err-entered.ensures.refused t told (λ s. answered (reply.Members s.site.members))))
