use Rattle.keep_core.proofs.Fitting.{found_fits}
use Rattle.keep_core.proofs.lookups.kept_page.Goals as goal

pub get-requires-in-Some : goal.get-requires-in-Some
get-requires-in-Some c = (found_fits c.args.tables.now c.args.site.now c.in-Some.kept.now c.requires c.in-Some.ensures).in_order
