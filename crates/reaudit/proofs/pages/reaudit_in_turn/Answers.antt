use Rattle.std.proofs.Common.{length, take, ap, ◌∙◌, sym, arith}
use Rattle.std.proofs.lemmas.Grind.{common_steps}
use Rattle.rule_core.specs.Books.{Book}
use Rattle.reaudit.proofs.Turns.{version_here, outcomes_more, reached_more, judged_more, reached_within, judged_within}
use Rattle.reaudit.proofs.pages.reaudit_in_turn.Goals as goal

pub reaudit-requires : goal.reaudit-requires
reaudit-requires g c = version_here g.B.RuleBook.book c.args.pages.now c.loop-page.page-index c.page-item.result c.loop-page-test.true c.page-item.is c.requires

pub loop-page-preserved : goal.loop-page-preserved
loop-page-preserved g c =
    let book : Book = g.B.RuleBook.book in
    let pages = c.args.pages.now in
    let i = c.loop-page.page-index in
    let w = c.page-item.result in
    let inside = c.loop-page-test.true in
    let is = c.page-item.is in
    let before = c.loop-page.invariant in (
      outcomes_more book pages i w inside is _ c.loop-page.all.items _ c.in_ok-outcomes.outcomes c.as_slice-js.ensures before.0 c.in_ok-outcomes.ensures.rows c.in_ok-push.ensures.items,
      reached_more book pages i w inside is _ _ _ before.1 c.reaudit.ensures.counted,
      grind (arith, common_steps),
      judged_more book pages i w inside is _ _ _ before.3 c.reaudit.ensures.within,
    )
