-- What a rule says of a cell, by the cell itself and its nearest table.
use Rattle.std.specs.Prelude.{Bool, if◌then◌else◌, Option, None, option_map, option_and_then}
use Rattle.snap_tree.specs.declared.row.Row.{Row}
use Rattle.snap_tree.specs.Trees.{Trees}
use Rattle.acc_tree.specs.declared.above.Above.{Above}
use Rattle.acc_tree.specs.Sights.{Sight}
use Rattle.rule_core.specs.declared.verdict.Verdict.{Verdict}

-- of a row that passes the test, what is said of it, what is above it, and what is below the table
abbrev pub said_by_table : (Row → Bool) → (Above → Row → Trees → Option Verdict) → Option (Row × Above) × Option Sight → Option Verdict
said_by_table passes says told =
    option_and_then (λ x. if passes x.0 then option_and_then (says x.1 x.0) (option_map (λ s. s.below) told.1) else None) told.0
