use Rattle.std.proofs.Common.{refl}
use Rattle.rule_core.specs.Books.{Book}
use Rattle.desk_core.specs.State.{page_state}
use Rattle.desk_core.proofs.Onward.{agrees_as}
use Rattle.desk_core.proofs.JudgeLaws.{judge_is, refused_on}
use Rattle.desk_core.proofs.judge.decide.Goals as goal

pub returns-in_err-row-clause-judges : goal.returns-in_err-row-clause-judges
returns-in_err-row-clause-judges g c =
    let book : Book = g.B.RuleBook.book in
    let a = c.args in
    let j = a.said in
    refused_on book a.site a.caller.now a.page j.rule j.node j.verdict j.digest j.note a.kept _ _ c.from_residual.ensures.1 c.in_err-row.ensures.refused

pub returns-clause-agrees : goal.returns-clause-agrees
returns-clause-agrees g c =
    λ holds.
    let book : Book = g.B.RuleBook.book in
    let a = c.args in
    let j = a.said in
    agrees_as c.added.result _ _
    (judge_is book a.site a.caller.now a.page j.rule j.node j.verdict j.digest j.note a.kept _ _ holds c.in_ok-row.ensures.row c.in_ok-judgement.ensures)
    (c.added.ensures.agrees (page_state a.kept) refl holds)
