use Rattle.std.proofs.Common.{◌≡◌, false, tests, rules}
use Rattle.aria_tables.specs.Attributes.{attributes}
use Rattle.aria_tables.proofs.Attributes.{attributes_at, name_lengths, no_attribute_at}
use Rattle.aria_tables.proofs.Lengths.{is_length}
use Rattle.aria_tables.proofs.attr.attributes_of_length.Goals as goal

pub returns-in-9 : goal.returns-in-9
unfolding attributes
returns-in-9 c = attributes_at _ 9 c.in-9.is

pub returns-in-10 : goal.returns-in-10
unfolding attributes
returns-in-10 c = attributes_at _ 10 c.in-10.is

pub returns-in-11 : goal.returns-in-11
unfolding attributes
returns-in-11 c = attributes_at _ 11 c.in-11.is

pub returns-in-12 : goal.returns-in-12
unfolding attributes
returns-in-12 c = attributes_at _ 12 c.in-12.is

pub returns-in-13 : goal.returns-in-13
unfolding attributes
returns-in-13 c = attributes_at _ 13 c.in-13.is

pub returns-in-14 : goal.returns-in-14
unfolding attributes
returns-in-14 c = attributes_at _ 14 c.in-14.is

pub returns-in-15 : goal.returns-in-15
unfolding attributes
returns-in-15 c = attributes_at _ 15 c.in-15.is

pub returns-in-16 : goal.returns-in-16
unfolding attributes
returns-in-16 c = attributes_at _ 16 c.in-16.is

pub returns-in-17 : goal.returns-in-17
unfolding attributes
returns-in-17 c = attributes_at _ 17 c.in-17.is

pub returns-in-20 : goal.returns-in-20
unfolding attributes
returns-in-20 c = attributes_at _ 20 c.in-20.is

pub returns-in-21 : goal.returns-in-21
unfolding attributes
returns-in-21 c = attributes_at _ 21 c.in-21.is

pub returns-in_default : goal.returns-in_default
returns-in_default c =
    let h : is_length name_lengths c.args.len ≡ false = search (tests, rules) in no_attribute_at c.args.len h
