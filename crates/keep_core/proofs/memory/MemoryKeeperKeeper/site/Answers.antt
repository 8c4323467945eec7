use Rattle.std.proofs.Common.{Option, IfSome, sym, subst}
use Rattle.keep_core.specs.declared.site.Site.{Site}
use Rattle.keep_core.specs.Fits.{FitsSite}
use Rattle.keep_core.proofs.Fitting.{site_fits}
use Rattle.keep_core.proofs.memory.MemoryKeeperKeeper.site.Goals as goal

pub returns-clause-fits : goal.returns-clause-fits
returns-clause-fits c = subst (λ (found : Option Site). IfSome found FitsSite) (sym c.in_ok-site_row.ensures) (site_fits c.self.inside.tables c.args.site.now c.self.invariant)
