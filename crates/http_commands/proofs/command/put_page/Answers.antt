use Rattle.http_commands.proofs.Straight.{straight_given}
use Rattle.http_commands.proofs.command.put_page.Goals as goal

pub returns-in-Ok-clause-exact : goal.returns-in-Ok-clause-exact
returns-in-Ok-clause-exact c = straight_given c.args.head.now c.args.site c.args.page _ _ _ c.in-Ok.ensures.exact c.put_raw.ensures.exact
