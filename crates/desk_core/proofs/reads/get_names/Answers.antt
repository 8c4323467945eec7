use Rattle.std.proofs.Common.{refl, ap, sym}
use Rattle.std.proofs.Common.{Ok}
use Rattle.desk_core.specs.declared.command.Command.TheVariants.{GetNames}
use Rattle.desk_core.specs.declared.refusal.Needed.TheVariants.{Reader}
use Rattle.desk_core.specs.declared.reply.Reply.TheVariants as reply
use Rattle.desk_core.specs.Reading.{answered}
use Rattle.desk_core.specs.Steps.{Request}
use Rattle.desk_core.proofs.Onward.{decides_page, decides_no_page, decides_so}
use Rattle.desk_core.proofs.reads.get_names.Goals as goal

pub returns : goal.returns
returns g c =
    λ book.
    let request : Request = record { caller = c.args.caller.now; command = GetNames c.args.site.now c.args.page.now } in
    decides_page book request Reader c.args.site.now c.args.page.now (λ p. answered (reply.Names p.tree)) (λ t. refl) _ _
    c.in_ok-found.found (Ok c.names_of.result) c.in_ok-found.ensures (ap Ok (sym c.names_of.ensures)) tt tt tt

pub returns-in_err-found : goal.returns-in_err-found
returns-in_err-found g c =
    λ book.
    let request : Request = record { caller = c.args.caller.now; command = GetNames c.args.site.now c.args.page.now } in
    decides_so c.in_err-found.field-0.0 c.from_residual.ensures.1
    (decides_no_page book request Reader c.args.site.now c.args.page.now (λ p. answered (reply.Names p.tree)) (λ t. refl) _ _ c.in_err-found.field-0.0 c.in_err-found.ensures)
