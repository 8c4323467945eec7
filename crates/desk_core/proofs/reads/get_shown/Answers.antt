use Rattle.desk_core.proofs.ReadLaws.{decides_read, decides_not_read}
use Rattle.desk_core.proofs.Onward.{decides_so}
use Rattle.desk_core.proofs.reads.get_shown.Goals as goal

pub returns : goal.returns
returns g c =
    λ book.
    let a = c.args in
    decides_read book a.caller.now a.site.now a.page.now a.showing _ _ c.in_ok-shown.shown c.shown_as.result c.shown_as.ensures (c.in_ok-shown.ensures book)

pub returns-in_err-shown : goal.returns-in_err-shown
returns-in_err-shown g c =
    λ book.
    let a = c.args in
    decides_so c.in_err-shown.field-0.0 c.from_residual.ensures.1
    (decides_not_read book a.caller.now a.site.now a.page.now a.showing _ _ c.in_err-shown.field-0.0 (c.in_err-shown.ensures book))
