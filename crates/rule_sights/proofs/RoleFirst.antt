-- The role of a number is looked at before its sight.
use Rattle.std.proofs.Common.{◌≡◌, Bool, true, false, cond, List, Option, Some, None, sym, ap, ◌∙◌, refl}
use Rattle.std.specs.Option.{option_map_or, option_and_then}
use Rattle.aria_tables.specs.declared.role.Role.{Role}
use Rattle.aria_tables.specs.Roles.{is_one_of}
use Rattle.snap_tree.specs.declared.row.NodeId.{NodeId}
use Rattle.snap_tree.specs.Trees.{Trees}
use Rattle.acc_tree.specs.Pages.{role}
use Rattle.acc_tree.specs.Roles.{role_at}
use Rattle.acc_tree.specs.Sights.{Sight, sight_of}
use Rattle.rule_sights.specs.Nodes.{if_role, sight_as}

-- the role of a node, where there is one
abbrev role_in : Option Sight → Option Role
role_in o = option_map_or (λ s. role_at s.above s.row) o None

-- a role that may be absent is one of these
abbrev is_among : List Role → Option Role → Bool
is_among those r = option_map_or (is_one_of those) r false

kept : (those : List Role) (s : Sight) (b : Bool) → is_among those (role_at s.above s.row) ≡ b → cond b (Some s) None ≡ if_role those s
kept those s b e = sym (ap (λ c. cond c (Some s) None) e)

isnt_at : (those : List Role) (o : Option Sight) (r : Option Role) → role_in o ≡ r → is_among those r ≡ false → None ≡ option_and_then (if_role those) o
isnt_at those None r e h = refl
isnt_at those (Some s) r e h = kept those s false (ap (is_among those) e ∙ h)

is_at : (those : List Role) (o : Option Sight) (r : Option Role) → role_in o ≡ r → is_among those r ≡ true → o ≡ option_and_then (if_role those) o
is_at those None r e h = refl
is_at those (Some s) r e h = kept those s true (ap (is_among those) e ∙ h)

pub no_role : (those : List Role) (t : Trees) (n : NodeId) → role t n ≡ None → None ≡ sight_as those t n
no_role those t n e = isnt_at those (sight_of t n) None e refl

pub is_not : (those : List Role) (t : Trees) (n : NodeId) (r : Role) → role t n ≡ Some r → is_one_of those r ≡ false → None ≡ sight_as those t n
is_not those t n r e h = isnt_at those (sight_of t n) (Some r) e h

pub is_it : (those : List Role) (t : Trees) (n : NodeId) (r : Role) → role t n ≡ Some r → is_one_of those r ≡ true → sight_of t n ≡ sight_as those t n
is_it those t n r e h = is_at those (sight_of t n) (Some r) e h
