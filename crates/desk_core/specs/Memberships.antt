-- The sites of which a user is a member.
use Rattle.std.specs.Prelude.{ℕ, List}
use Rattle.std.specs.List.{filter_map}
use Rattle.keep_core.specs.declared.member.Membership.{Membership}
pub use Rattle.keep_core.specs.Members.{held_in, membership}
use Rattle.desk_core.specs.State.{State}

-- in the order of the sites
abbrev pub memberships : List ℕ → State → List Membership
memberships user state = filter_map (λ s. membership user s.site) state
