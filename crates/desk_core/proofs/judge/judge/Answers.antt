use Rattle.std.proofs.Common.{refl}
use Rattle.rule_core.specs.Books.{Book}
use Rattle.desk_core.specs.declared.command.Command.TheVariants.{Judge}
use Rattle.desk_core.specs.Judging.{judge}
use Rattle.desk_core.specs.Steps.{Request}
use Rattle.desk_core.proofs.JudgeLaws.{decides_judged, decides_no_judged}
use Rattle.desk_core.proofs.Onward.{decides_so}
use Rattle.desk_core.proofs.judge.judge.Goals as goal

pub returns : goal.returns
returns g c =
    let book : Book = g.B.RuleBook.book in
    let a = c.args in
    let s = a.said in
    let request : Request = record { caller = a.caller.now; command = Judge a.site a.page s.rule s.node s.verdict s.digest s.note } in
    decides_judged book request a.site a.page (judge book a.site a.caller.now a.page s.rule s.node s.verdict s.digest s.note) (λ t. refl) _ _ c.in_ok-kept.kept c.decide.result
    c.requires.site c.requires.page c.in_ok-kept.ensures c.decide.ensures.agrees c.decide.ensures.judges

pub returns-in_err-kept : goal.returns-in_err-kept
returns-in_err-kept g c =
    let book : Book = g.B.RuleBook.book in
    let a = c.args in
    let s = a.said in
    let request : Request = record { caller = a.caller.now; command = Judge a.site a.page s.rule s.node s.verdict s.digest s.note } in
    decides_so c.in_err-kept.field-0.0 c.from_residual.ensures.1
    (decides_no_judged book request a.site a.page (judge book a.site a.caller.now a.page s.rule s.node s.verdict s.digest s.note) (λ t. refl) _ _ c.in_err-kept.field-0.0 c.in_err-kept.ensures)
