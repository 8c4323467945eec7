use Rattle.std.proofs.Common.{sym, subst}
use Rattle.keep_core.specs.Fits.{FitNames}
use Rattle.keep_core.proofs.Fitting.{names_fit}
use Rattle.keep_core.proofs.memory.MemoryKeeperKeeper.sites.Goals as goal

pub returns-clause-fits : goal.returns-clause-fits
returns-clause-fits c = subst FitNames (sym c.in_ok-site_names.ensures) (names_fit c.self.inside.tables c.self.invariant)
