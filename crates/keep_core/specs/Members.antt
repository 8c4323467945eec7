-- The members of a site, and the sites of which a user is a member.
use Rattle.std.specs.Prelude.{ℕ, List, Option, option_map}
use Rattle.std.specs.List.{find}
use Rattle.std.specs.Str.{bytes_eq}
use Rattle.keep_core.specs.declared.member.Member.{Member}
use Rattle.keep_core.specs.declared.member.MemberRole.{MemberRole}
use Rattle.keep_core.specs.declared.member.Membership.{Membership}
use Rattle.keep_core.specs.declared.site.Site.{Site}

-- the role of a user among a site's members: none for a stranger
abbrev pub role_of : List ℕ → List Member → Option MemberRole
role_of user members = option_map (λ member. member.role) (find (λ member. bytes_eq member.user user) members)

-- a membership of the site of a name, where a role is held there
abbrev pub held_in : List ℕ → Option MemberRole → Option Membership
held_in name held = option_map (λ r. record { site = name; role = r }) held

-- a user's membership of a site: none where the user is a stranger
abbrev pub membership : List ℕ → Site → Option Membership
membership user site = held_in site.name (role_of user site.members)
