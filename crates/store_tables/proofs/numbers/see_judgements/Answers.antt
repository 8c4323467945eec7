use Rattle.std.proofs.Common.{subst}
use Rattle.std.proofs.lemmas.List.Elements.{All-more}
use Rattle.judge_core.specs.declared.judgement.Judgement.{Judgement}
use Rattle.store_tables.specs.Numbers.{AreNumbers}
use Rattle.store_tables.proofs.numbers.see_judgements.Goals as goal

pub loop-j-preserved : goal.loop-j-preserved
loop-j-preserved c =
    let P : Judgement → Type 0 = λ j. AreNumbers j.rule.0 j.node.0 in
    All-more P c.args.js.now c.loop-j.j-index c.j-item.result c.loop-j-test.true c.loop-j.invariant (subst P c.j-item.is c.see.ensures)
