use Rattle.std.proofs.Common.{◌∙◌, sym, arith, rules}
use Rattle.texts.specs.Words.{words}
use Rattle.acc_tree.specs.Seen.{seen}
use Rattle.acc_tree.proofs.Finding.{found_first, found_later}
use Rattle.acc_tree.proofs.references.first_found.Goals as goal

pub returns-in-Some-element_of-clause-found : goal.returns-in-Some-element_of-clause-found
returns-in-Some-element_of-clause-found c =
    sym c.loop-word.invariant.2 ∙ found_first (seen c.args.tree.now.trees) (words c.loop-word.rest.now) c.in-Some.word.now (words c.in-Some.later.now) c.in-Some-element_of.node c.in-Some.ensures.is c.in-Some-element_of.ensures

pub loop-word-preserved : goal.loop-word-preserved
loop-word-preserved c = (
  search rules,
  omega (arith, c.in-Some.ensures.shorter),
  found_later (seen c.args.tree.now.trees) (words c.loop-word.rest.now) c.in-Some.word.now (words c.in-Some.later.now) c.in-Some.ensures.is (sym c.in_default-element_of.is ∙ c.element_of.ensures) ∙ c.loop-word.invariant.2,
)
