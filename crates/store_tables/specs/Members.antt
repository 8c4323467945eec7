-- The table of members: a site, a user and a role.
use Rattle.std.specs.Prelude.{ℕ, pos, List, [], ◌∷◌, Option, Some}
use Rattle.sqlite_value.specs.declared.value.Value.TheVariants.{Int, Text}
use Rattle.sqlite_value.specs.Order.{Row, column}
use Rattle.keep_core.specs.declared.member.Member.{Member}
use Rattle.keep_core.specs.declared.member.Membership.{Membership}
use Rattle.sql_rows.specs.Tables.{name_at}
use Rattle.store_tables.specs.Reading.{◌>>=◌, read_each}
use Rattle.store_tables.specs.Cells.{named, role_in, role_number}

-- as it is written
abbrev pub member_cells : List ℕ → Member → Row
member_cells site m = Text site ∷ Text m.user ∷ Int (pos (role_number m.role)) ∷ []

-- as it is read, where the user and the role are shown
unfoldable pub member_from : Row → Option Member
member_from c = do
  user ← named (name_at 0 c)
  role ← role_in (column c 1)
  Some (record { user = user; role = role })

-- as it is read of a user, where the site and the role are shown
unfoldable pub membership_from : Row → Option Membership
membership_from c = do
  site ← named (name_at 0 c)
  role ← role_in (column c 1)
  Some (record { site = site; role = role })

abbrev pub memberships_shown : List Row → Option (List Membership)
memberships_shown rows = read_each membership_from rows
