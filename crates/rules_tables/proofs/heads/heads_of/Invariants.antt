use Rattle.acc_tree.specs.Seen.{seen}
use Rattle.rules_tables.specs.Heads.{AreOfPage}
use Rattle.rules_tables.proofs.heads.heads_of.Given as goal

abbrev pub invariant-loop-row : goal.invariant-loop-row
invariant-loop-row l = AreOfPage (seen l.tree.trees) l.tables.items
