use Rattle.aria_tables.proofs.Roles.{role_by_length}
use Rattle.aria_tables.proofs.role.role_of.Goals as goal

pub returns : goal.returns
returns c = rw (c.role_among.ensures, c.roles_of_length.ensures) (role_by_length c.args.token.now)
