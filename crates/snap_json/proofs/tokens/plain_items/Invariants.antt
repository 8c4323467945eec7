use Rattle.std.proofs.Common.{ℕ, List, ◌≤◌, length}
use Rattle.json.specs.Json.{value}
use Rattle.snap_json.proofs.Turns.{Leads}
use Rattle.snap_json.proofs.StraightRows.{Any}
use Rattle.snap_json.proofs.tokens.plain_items.Given as goal

abbrev pub invariant-items : goal.invariant-items
invariant-items l =
    (n : ℕ) × (some : List ℕ) × (length l.reader ≤ n) × (length l.reader ≤ length l.initial.reader) × Leads Any (value 123) l.initial.reader n l.reader some

abbrev pub decreases-items : goal.decreases-items
decreases-items l = length l.reader
