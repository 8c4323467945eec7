use Rattle.std.proofs.Common.{◌≡◌, ◌++◌, drop}
use Rattle.acc_tree.specs.Seen.{seen}
use Rattle.rules_bypass.specs.Bypass.{row_lines}
use Rattle.rules_bypass.proofs.bypass.Bypass.add_lines.Given as goal

abbrev pub invariant-loop-row : goal.invariant-loop-row
invariant-loop-row l =
    l.found.items ++ row_lines l.self (seen l.tree.trees) (drop l.row-index l.rows) ≡ l.fn.found.items ++ row_lines l.fn.self (seen l.fn.tree.trees) l.fn.rows
