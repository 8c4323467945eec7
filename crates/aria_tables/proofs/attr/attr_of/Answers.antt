use Rattle.aria_tables.proofs.Attributes.{attr_by_length}
use Rattle.aria_tables.proofs.attr.attr_of.Goals as goal

pub returns : goal.returns
returns c = rw (c.attr_among.ensures, c.attributes_of_length.ensures) (attr_by_length c.args.name.now)
