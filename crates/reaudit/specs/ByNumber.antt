-- What is known of each node of a page, by its number.
use Rattle.std.specs.Prelude.{◌≡◌, ℕ, List, Bool}
use Rattle.number_tables.specs.declared.table.NumberTable.{NumberTable}
use Rattle.number_tables.specs.Tables.{at}
use Rattle.snap_tree.specs.declared.row.NodeId.{NodeId}
use Rattle.page_changes.specs.declared.flags.Flags.{Flags}
use Rattle.reaudit.specs.declared.known.Known.{Known}
use Rattle.reaudit.specs.declared.known.Placed.{Placed}
use Rattle.reaudit.specs.Known.{first_known}

-- of each number the first flags are known
abbrev pub HasEach : List Flags → NumberTable Known → Type 0
HasEach list table = (n : ℕ) → at table n ≡ first_known 0 n list

abbrev pub placed_by : NumberTable Known → Bool → NodeId → Placed
placed_by table langs n = record { node = n; known = at table n.0; langs = langs }
