use Rattle.std.proofs.Common.{◌≡◌, IfOk, subst}
use Rattle.rule_core.specs.Reach.{Says}
use Rattle.rule_core.specs.Pages.{page_verdicts}
use Rattle.book_forty.proofs.table.on_page_by.Goals as goal

pub returns : goal.returns
returns g c =
    subst (λ (says : Says). IfOk c.judge_page.result (λ verdicts. verdicts.items ≡ page_verdicts says c.args.tree.now)) (λ i page n. c.requires page n i) c.judge_page.ensures
