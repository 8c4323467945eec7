use Rattle.std.proofs.Common.{arith}
use Rattle.std.proofs.lemmas.Grind.{common_steps}
use Rattle.rule_core.specs.Books.{Book}
use Rattle.reaudit.proofs.Halves.{both_found, both_many, both_counted, both_within}
use Rattle.reaudit.proofs.pages.+sharing.Goals as goal

pub reaudit_part-returns-clause-outcomes : goal.reaudit_part-returns-clause-outcomes
reaudit_part-returns-clause-outcomes g t c =
    let book : Book = g.B.RuleBook.book in
    both_found book c.args.pages.now c.split_at.result.0.now c.split_at.result.1.now c.split_at.ensures.by_index.0 c.reaudit_both-first.result.0 c.reaudit_both-first.result.1 c.joined.result
    c.reaudit_both-first.ensures.first c.reaudit_both-first.ensures.later c.joined.ensures

pub reaudit_part-returns-clause-as_many : goal.reaudit_part-returns-clause-as_many
reaudit_part-returns-clause-as_many g t c =
    let book : Book = g.B.RuleBook.book in
    both_many book c.args.pages.now c.split_at.result.0.now c.split_at.result.1.now c.split_at.ensures.by_index.0 c.reaudit_both-first.result.0 c.reaudit_both-first.result.1 c.joined.result
    c.reaudit_both-first.ensures.first_many c.reaudit_both-first.ensures.later_many c.joined.ensures

pub reaudit_part-returns-clause-counted : goal.reaudit_part-returns-clause-counted
reaudit_part-returns-clause-counted g t c =
    let book : Book = g.B.RuleBook.book in
    both_counted book c.args.pages.now c.split_at.result.0.now c.split_at.result.1.now c.split_at.ensures.by_index.0 _ _ _ _ _ _
    c.reaudit_both-first.ensures.first_counted c.reaudit_both-first.ensures.later_counted (grind (arith, common_steps)) (grind (arith, common_steps))

pub reaudit_part-returns-clause-within : goal.reaudit_part-returns-clause-within
reaudit_part-returns-clause-within g t c =
    let book : Book = g.B.RuleBook.book in
    both_within book c.args.pages.now c.split_at.result.0.now c.split_at.result.1.now c.split_at.ensures.by_index.0 _ _ _ _ _ _
    c.reaudit_both-first.ensures.first_within c.reaudit_both-first.ensures.later_within (grind (arith, common_steps)) (grind (arith, common_steps))
