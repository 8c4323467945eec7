use Rattle.std.proofs.Common.{◌≡◌, ℕ, ◌≤◌, length}
use Rattle.json.specs.Json.{members, value}
use Rattle.serde_json.specs.Data.{Members as Object, no_members}
use Rattle.serde_json.specs.Read.{of_members, converted}
use Rattle.snap_json.specs.Straight.{Holds}
use Rattle.snap_json.proofs.straight.take_members.Given as goal

abbrev pub invariant-members : goal.invariant-members
invariant-members l =
    (n : ℕ) × (ms : Object) × (length l.reader ≤ n) × (length l.reader ≤ length l.initial.reader)
    × (converted (λ m. of_members m no_members) (members (value 124) (length l.initial.reader) l.initial.reader) ≡ converted (λ m. of_members m ms) (members (value 124) n l.reader))
    × Holds l.found ms

abbrev pub decreases-members : goal.decreases-members
decreases-members l = length l.reader
