use Rattle.std.proofs.Common.{refl}
use Rattle.rule_core.specs.Books.{Book}
use Rattle.desk_core.specs.declared.command.Command.TheVariants.{TakeEarl}
use Rattle.desk_core.specs.Claiming.{take_earl}
use Rattle.desk_core.specs.Steps.{Request}
use Rattle.desk_core.proofs.JudgeLaws.{decides_judged, decides_no_judged}
use Rattle.desk_core.proofs.Onward.{decides_so}
use Rattle.desk_core.proofs.take_earl.take_earl.Goals as goal

pub returns : goal.returns
returns g c =
    let book : Book = g.B.RuleBook.book in
    let a = c.args in
    let request : Request = record { caller = a.caller.now; command = TakeEarl a.site a.page a.claims.now } in
    decides_judged book request a.site a.page (take_earl book a.site a.caller.now a.page a.claims.now) (λ t. refl) _ _ c.in_ok-kept.kept c.decide.result
    c.requires.names.site c.requires.names.page c.in_ok-kept.ensures c.decide.ensures.agrees c.decide.ensures.judges

pub returns-in_err-kept : goal.returns-in_err-kept
returns-in_err-kept g c =
    let book : Book = g.B.RuleBook.book in
    let a = c.args in
    let request : Request = record { caller = a.caller.now; command = TakeEarl a.site a.page a.claims.now } in
    decides_so c.in_err-kept.field-0.0 c.from_residual.ensures.1
    (decides_no_judged book request a.site a.page (take_earl book a.site a.caller.now a.page a.claims.now) (λ t. refl) _ _ c.in_err-kept.field-0.0 c.in_err-kept.ensures)
