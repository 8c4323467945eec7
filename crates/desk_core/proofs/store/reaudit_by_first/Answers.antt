use Rattle.std.proofs.Common.{◌≡◌, List, IfOk, subst, arith}
use Rattle.std.proofs.lemmas.List.{drop-set-lt}
use Rattle.std.proofs.lemmas.Grind.{common_steps}
use Rattle.rule_core.specs.Books.{Book}
use Rattle.judge_core.specs.declared.judgement.Judgement.{Judgement}
use Rattle.judge_core.specs.Outcomes.{outcomes}
use Rattle.desk_core.proofs.store.reaudit_by_first.Goals as goal

pub returns-clause-rows : goal.returns-clause-rows
returns-clause-rows g c =
    λ is.
    let book : Book = g.B.RuleBook.book in
    let P : List Judgement → Type 0 = λ js. IfOk c.reaudit.result (λ o. o.rows ≡ outcomes book c.args.tree.now js) in
    subst P c.as_slice-js.ensures (c.reaudit.ensures.rows c.args.kept.now.judgements is)

pub returns-clause-costs : goal.returns-clause-costs
returns-clause-costs g c = record {
  counted = λ is. grind (arith, common_steps, c.reaudit.ensures.counted c.args.kept.now.judgements is);
  at_most = grind (arith, common_steps);
  others = drop-set-lt 1 c.args.books.now 0 _ (omega arith);
}
