use Rattle.std.proofs.Common.{◌≡◌, false, tests, rules}
use Rattle.aria_tables.specs.Roles.{roles}
use Rattle.aria_tables.proofs.Roles.{roles_at, role_lengths, no_role_at}
use Rattle.aria_tables.proofs.Lengths.{is_length}
use Rattle.aria_tables.proofs.role.roles_of_length.Goals as goal

pub returns-in-3 : goal.returns-in-3
unfolding roles
returns-in-3 c = roles_at _ 3 c.in-3.is

pub returns-in-4 : goal.returns-in-4
unfolding roles
returns-in-4 c = roles_at _ 4 c.in-4.is

pub returns-in-5 : goal.returns-in-5
unfolding roles
returns-in-5 c = roles_at _ 5 c.in-5.is

pub returns-in-6 : goal.returns-in-6
unfolding roles
returns-in-6 c = roles_at _ 6 c.in-6.is

pub returns-in-7 : goal.returns-in-7
unfolding roles
returns-in-7 c = roles_at _ 7 c.in-7.is

pub returns-in-8 : goal.returns-in-8
unfolding roles
returns-in-8 c = roles_at _ 8 c.in-8.is

pub returns-in-9 : goal.returns-in-9
unfolding roles
returns-in-9 c = roles_at _ 9 c.in-9.is

pub returns-in-10 : goal.returns-in-10
unfolding roles
returns-in-10 c = roles_at _ 10 c.in-10.is

pub returns-in-11 : goal.returns-in-11
unfolding roles
returns-in-11 c = roles_at _ 11 c.in-11.is

pub returns-in-12 : goal.returns-in-12
unfolding roles
returns-in-12 c = roles_at _ 12 c.in-12.is

pub returns-in-13 : goal.returns-in-13
unfolding roles
returns-in-13 c = roles_at _ 13 c.in-13.is

pub returns-in-16 : goal.returns-in-16
unfolding roles
returns-in-16 c = roles_at _ 16 c.in-16.is

pub returns-in_default : goal.returns-in_default
returns-in_default c =
    let h : is_length role_lengths c.args.len ≡ false = search (tests, rules) in no_role_at c.args.len h
