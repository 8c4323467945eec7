use Rattle.std.proofs.Common.{ap, subst, arith}
use Rattle.rule_core.specs.Books.{Book}
use Rattle.keep_core.specs.declared.page.Page.{Page}
use Rattle.keep_core.specs.declared.page.PagePut.{PagePut}
use Rattle.desk_core.specs.Pages.{storing}
use Rattle.desk_core.specs.Serving.{Agrees}
use Rattle.desk_core.proofs.KeptEdits.{edited_fits, edits_by}
use Rattle.desk_core.proofs.renewing.edited.Goals as goal

pub returns-clause-decided : goal.returns-clause-decided
returns-clause-decided g c =
    λ holds.
    let book : Book = g.B.RuleBook.book in
    subst (Agrees ⊥ c.storing.result) (ap (λ (put : PagePut). storing book c.args.sent.site put.page.head.rev put) (c.in_ok-put.ensures.put holds)) c.storing.ensures

pub returns-clause-edits : goal.returns-clause-edits
returns-clause-edits g c =
    let book : Book = g.B.RuleBook.book in
    edits_by book c.args.sent.site c.args.sent.page c.in_ok-put.put c.storing.result c.requires.names.site
    (edited_fits c.args.sent.page c.args.caller.now _ c.args.tree c.args.kept.now.page _ c.requires.names.page (omega arith) c.requires.address c.requires.fits c.in_ok-put.ensures.page)
    (ap (λ (p : Page). p.head.page) c.in_ok-put.ensures.page)
    c.storing.ensures
