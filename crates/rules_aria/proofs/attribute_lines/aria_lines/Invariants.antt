use Rattle.std.proofs.Common.{◌≡◌, length, map}
use Rattle.std.specs.String.{string_bytes}
use Rattle.acc_tree.specs.Seen.{seen_row}
use Rattle.rules_aria.specs.AriaLines.{line, aria_lines}
use Rattle.rules_aria.proofs.Joining.{joined_on}
use Rattle.rules_aria.proofs.attribute_lines.aria_lines.Given as goal

abbrev pub invariant-loop-attr : goal.invariant-loop-attr
invariant-loop-attr l = joined_on 10 (string_bytes l.lines) (map line l.attrs) ≡ aria_lines (seen_row l.row)

abbrev pub decreases-loop-attr : goal.decreases-loop-attr
decreases-loop-attr l = length l.attrs
