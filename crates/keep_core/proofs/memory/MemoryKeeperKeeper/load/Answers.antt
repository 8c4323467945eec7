use Rattle.std.proofs.Common.{Option, IfSome, sym, subst}
use Rattle.keep_core.specs.declared.page.Page.{Page}
use Rattle.keep_core.specs.Fits.{FitsPage}
use Rattle.keep_core.proofs.Fitting.{page_fits}
use Rattle.keep_core.proofs.memory.MemoryKeeperKeeper.load.Goals as goal

pub returns-clause-fits : goal.returns-clause-fits
returns-clause-fits c = subst (λ (found : Option Page). IfSome found FitsPage) (sym c.in_ok-page_row.ensures) (page_fits c.self.inside.tables c.args.site.now c.args.page.now c.self.invariant)
