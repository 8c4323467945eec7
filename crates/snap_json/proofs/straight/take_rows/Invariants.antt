use Rattle.std.proofs.Common.{ℕ, ◌≤◌, length}
use Rattle.json.specs.Json.{value}
use Rattle.snap_json.proofs.Turns.{Leads}
use Rattle.snap_json.proofs.StraightRows.{AreRows}
use Rattle.snap_json.proofs.straight.take_rows.Given as goal

abbrev pub invariant-rows : goal.invariant-rows
invariant-rows l =
    (n : ℕ) × (length l.reader ≤ n) × (length l.reader ≤ length l.initial.reader) × Leads AreRows (value 125) l.initial.reader n l.reader l.found.items

abbrev pub decreases-rows : goal.decreases-rows
decreases-rows l = length l.reader
