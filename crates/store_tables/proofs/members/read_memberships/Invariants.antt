use Rattle.std.proofs.Common.{◌≡◌, take, Some}
use Rattle.store_tables.specs.Reading.{read_each}
use Rattle.store_tables.specs.Members.{membership_from}
use Rattle.store_tables.proofs.members.read_memberships.Given as goal

abbrev pub invariant-loop-row : goal.invariant-loop-row
invariant-loop-row l = read_each membership_from (take l.row-index l.rows) ≡ Some l.memberships.items
