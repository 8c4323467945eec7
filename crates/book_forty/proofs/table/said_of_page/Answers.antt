use Rattle.std.proofs.Common.{rules, ◌≡◌, false, IfOk, subst}
use Rattle.rule_core.specs.Books.{infos_of}
use Rattle.rule_core.specs.Infos.{has_atomic}
use Rattle.rule_core.specs.Pages.{page_verdicts}
use Rattle.rule_core.specs.Reach.{Says}
use Rattle.rule_book.specs.Book.{thirty}
use Rattle.book_forty.specs.Book.{further}
use Rattle.book_forty.proofs.Behind.{said_before}
use Rattle.book_forty.proofs.table.said_of_page.Goals as goal

pub returns-in_default : goal.returns-in_default
returns-in_default c =
    let strange : has_atomic (infos_of further) c.args.rule.0 ≡ false = search rules in
    subst (λ (says : Says). IfOk c.said_of_page.result (λ verdicts. verdicts.items ≡ page_verdicts says c.args.tree.now)) (said_before thirty further c.args.rule strange) c.said_of_page.ensures
