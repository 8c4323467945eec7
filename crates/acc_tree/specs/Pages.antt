-- What is said of a page's nodes by number: their roles, and whether they are exposed and in the
-- accessibility tree.
use Rattle.std.specs.Prelude.{Bool, false, Option, None}
use Rattle.std.specs.Option.{option_map_or}
use Rattle.aria_tables.specs.declared.role.Role.{Role}
use Rattle.snap_tree.specs.declared.row.NodeId.{NodeId}
use Rattle.snap_tree.specs.declared.row.Row.{Row}
use Rattle.snap_tree.specs.Trees.{Trees}
use Rattle.acc_tree.specs.declared.above.Above.{Above}
use Rattle.acc_tree.specs.Roles.{explicit, implicit, role_at, decorative}
use Rattle.acc_tree.specs.Inclusion.{exposed, included}
use Rattle.acc_tree.specs.Sights.{sight_of}

-- what is said of the node of a number, by what is above it and its row; and the answer for a stranger
abbrev pub said_of : {A : Type 0} → (Above → Row → A) → A → Trees → NodeId → A
said_of says stranger trees n = option_map_or (λ s. says s.above s.row) (sight_of trees n) stranger

abbrev pub explicit_role : Trees → NodeId → Option Role
explicit_role = said_of (λ _ row. explicit row) None

abbrev pub implicit_role : Trees → NodeId → Option Role
implicit_role = said_of implicit None

abbrev pub role : Trees → NodeId → Option Role
role = said_of role_at None

abbrev pub is_exposed : Trees → NodeId → Bool
is_exposed = said_of exposed false

-- in the accessibility tree
abbrev pub is_included : Trees → NodeId → Bool
is_included = said_of included false

-- of role none or presentation
abbrev pub is_decorative : Trees → NodeId → Bool
is_decorative = said_of decorative false
