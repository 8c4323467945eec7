use Rattle.desk_core.specs.declared.command.Command.TheVariants.{GetVerdicts}
use Rattle.desk_core.specs.declared.reply.Reply.TheVariants as reply
use Rattle.desk_core.specs.Steps.{Request}
use Rattle.desk_core.proofs.Onward.{decides_so}
use Rattle.desk_core.proofs.ToldLaws.{decides_told, decides_untold}
use Rattle.desk_core.proofs.verdicts.get_verdicts.Goals as goal

pub returns : goal.returns
returns g c =
    λ book.
    let request : Request = record { caller = c.args.caller.now; command = GetVerdicts c.args.site.now c.args.page.now } in
    let read = c.in_ok-verdicts.ensures book in
    decides_told book request reply.Verdicts _ _ c.in_ok-verdicts.verdicts c.verdicts_reply.result c.verdicts_reply.ensures tt read.reads
    (λ t told sound. read.shows t told sound reply.Verdicts)

pub returns-in_err-verdicts : goal.returns-in_err-verdicts
returns-in_err-verdicts g c =
    λ book.
    let request : Request = record { caller = c.args.caller.now; command = GetVerdicts c.args.site.now c.args.page.now } in
    let read = c.in_err-verdicts.ensures book in
    decides_so c.in_err-verdicts.field-0.0 c.from_residual.ensures.1
    (decides_untold book request reply.Verdicts _ _ c.in_err-verdicts.field-0.0 read.reads (λ t told sound. read.shows t told sound reply.Verdicts))
