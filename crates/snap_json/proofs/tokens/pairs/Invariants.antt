use Rattle.std.proofs.Common.{ℕ, ◌≤◌, length}
use Rattle.json.specs.Json.{value}
use Rattle.snap_json.proofs.Turns.{Leads}
use Rattle.snap_json.proofs.StraightRows.{AreAttrs}
use Rattle.snap_json.proofs.tokens.pairs.Given as goal

abbrev pub invariant-pairs : goal.invariant-pairs
invariant-pairs l =
    (n : ℕ) × (length l.reader ≤ n) × (length l.reader ≤ length l.initial.reader) × Leads AreAttrs (value 123) l.initial.reader n l.reader l.found.items

abbrev pub decreases-pairs : goal.decreases-pairs
decreases-pairs l = length l.reader
