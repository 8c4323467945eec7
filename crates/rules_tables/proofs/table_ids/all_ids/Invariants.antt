use Rattle.acc_tree.specs.Seen.{seen}
use Rattle.rules_tables.specs.TableIds.{AreAllIds}
use Rattle.rules_tables.proofs.table_ids.all_ids.Given as goal

abbrev pub invariant-loop-row : goal.invariant-loop-row
invariant-loop-row l = AreAllIds (seen l.tree.trees) l.tables.items
