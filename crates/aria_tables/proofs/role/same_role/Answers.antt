use Rattle.std.proofs.Common.{◌∙◌}
use Rattle.aria_tables.proofs.Roles.{same_role-eq}
use Rattle.aria_tables.proofs.role.same_role.Goals as goal

pub returns : goal.returns
returns c = c.eq.ensures ∙ same_role-eq c.args.a c.args.b
