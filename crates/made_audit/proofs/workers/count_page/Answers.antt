use Rattle.std.proofs.Common.{◌≡◌, ◌∙◌, [], ◌∷◌, IfOk, ap, subst}
use Rattle.made_audit.specs.Line.{come_to}
use Rattle.made_audit.proofs.workers.count_page.Goals as goal

pub returns-clause-counted : goal.returns-clause-counted
returns-clause-counted g c =
    subst (λ works. IfOk c.count_works.result (λ counted. counted ≡ come_to g.B.RuleBook.book works)) (c.from_ref.ensures.value ∙ ap (λ work. work ∷ []) c.in_ok-work.ensures) c.count_works.ensures.counted
