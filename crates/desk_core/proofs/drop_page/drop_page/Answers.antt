use Rattle.std.proofs.Common.{refl}
use Rattle.desk_core.specs.declared.command.Command.TheVariants.{DropPage}
use Rattle.desk_core.specs.declared.refusal.Needed.TheVariants.{Editor}
use Rattle.desk_core.specs.Pages.{drop_page}
use Rattle.desk_core.specs.Steps.{Request}
use Rattle.desk_core.proofs.Fitted.{drop_page_fits, drop_page_keeps}
use Rattle.desk_core.proofs.Accepting.{drop_page_accepts}
use Rattle.desk_core.proofs.Onward.{decides_page, decides_no_page, decides_so}
use Rattle.desk_core.proofs.drop_page.drop_page.Goals as goal

pub returns : goal.returns
returns g c =
    λ book.
    let sent = c.args.sent in
    let request : Request = record { caller = c.args.caller.now; command = DropPage sent.site sent.page sent.rev } in
    decides_page book request Editor sent.site sent.page (drop_page sent.site sent.page sent.rev) (λ t. refl) _ _ c.in_ok-found.found c.decide.result
    c.in_ok-found.ensures c.decide.ensures (drop_page_fits sent.site sent.page sent.rev c.in_ok-found.found c.requires.site c.requires.page)
    (drop_page_keeps sent.site sent.page sent.rev c.in_ok-found.found)
    (drop_page_accepts sent.site sent.page sent.rev c.in_ok-found.found)

pub returns-in_err-found : goal.returns-in_err-found
returns-in_err-found g c =
    λ book.
    let sent = c.args.sent in
    let request : Request = record { caller = c.args.caller.now; command = DropPage sent.site sent.page sent.rev } in
    decides_so c.in_err-found.field-0.0 c.from_residual.ensures.1
    (decides_no_page book request Editor sent.site sent.page (drop_page sent.site sent.page sent.rev) (λ t. refl) _ _ c.in_err-found.field-0.0 c.in_err-found.ensures)
