-- The desk by what stands beside its door, and what a keeper tells.
use Rattle.std.proofs.Common.{ℕ, List, Option}
use Rattle.links.specs.Wires.{Wire}
use Rattle.links.specs.Doors.{Doorway}
use Rattle.desk_core.specs.Told.{Told}
use Rattle.desk_http.specs.Desk.{Moment, Desk}

-- the desk of a door, with this beside it
abbrev pub desk_with : {L : Type 0} → (L → Option Wire) → (L → ℕ) → Doorway → Option (List L) → Moment → Desk L
desk_with wire broken door log m =
    record { wire = wire; broken = broken; door = door; log = log; tables = m.tables; faults = m.faults; calls = m.calls }

-- what the keeper tells then
abbrev pub told_at : Moment → Told
told_at m = record { tables = m.tables; faults = m.faults }
