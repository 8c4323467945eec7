use Rattle.std.proofs.Common.{ap, subst}
use Rattle.keep_core.specs.declared.page.PagePut.{PagePut}
use Rattle.rule_core.specs.Books.{Book}
use Rattle.desk_core.specs.Pages.{storing}
use Rattle.desk_core.specs.Serving.{Agrees}
use Rattle.desk_core.proofs.renewing.renewed.Goals as goal

pub returns-clause-decided : goal.returns-clause-decided
returns-clause-decided g c =
    let book : Book = g.B.RuleBook.book in
    subst (Agrees ⊥ c.storing.result) (ap (λ (put : PagePut). storing book c.args.sent.site put.page.head.rev put) c.in_ok-put.ensures.put) c.storing.ensures
