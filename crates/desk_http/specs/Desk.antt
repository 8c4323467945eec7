-- What stands beside what is served, at a moment.
use Rattle.std.specs.Prelude.{ℕ, List, map, Option}
use Rattle.links.specs.declared.link.Link as links
use Rattle.links.specs.declared.door.Door as doors
use Rattle.links.specs.Wires.{Wire}
use Rattle.links.specs.Doors.{Doorway}
use Rattle.keep_core.specs.declared.keeper.Keeper as keepers
use Rattle.keep_core.specs.declared.tables.Tables.{Tables}

-- Beside a link: the tables, where the keeper tells them, and the count of its faults; and how often each book judged.
pub record Moment : Type 0 where
  pub tables : Option Tables
  pub faults : ℕ
  pub calls : List ℕ

-- the moment of a keeper and these books
abbrev pub moment_of : {K B : Type 0} → keepers.Ghosts K → (B → ℕ) → K → List B → Moment
moment_of keeper calls k books = record { tables = keeper.tables k; faults = keeper.faults k; calls = map calls books }

-- What its links tell of their bytes and their faults; a door, and the links in its log, where it tells them; the tables, where
-- the keeper tells them, and the count of its faults; and how often each book judged.
pub record Desk (L : Type 0) : Type 0 where
  pub wire : L → Option Wire
  pub broken : L → ℕ
  pub door : Doorway
  pub log : Option (List L)
  pub tables : Option Tables
  pub faults : ℕ
  pub calls : List ℕ

-- the desk of a door, a keeper and these books
abbrev pub desk_of : {D L K B : Type 0} → doors.Ghosts D L → links.Ghosts L → keepers.Ghosts K → (B → ℕ) → D → K → List B → Desk L
desk_of door link keeper calls d k books =
    record { wire = link.wire; broken = link.faults; door = door.told d; log = door.log d; tables = keeper.tables k; faults = keeper.faults k; calls = map calls books }

-- what stands beside its door
abbrev pub beside_door : {L : Type 0} → Desk L → Moment
beside_door desk = record { tables = desk.tables; faults = desk.faults; calls = desk.calls }
