use Rattle.std.proofs.Common.{sym, subst}
use Rattle.keep_core.specs.Fits.{FitsHeads}
use Rattle.keep_core.proofs.Fitting.{heads_fit}
use Rattle.keep_core.proofs.memory.MemoryKeeperKeeper.list.Goals as goal

pub returns-clause-fits : goal.returns-clause-fits
returns-clause-fits c = subst FitsHeads (sym c.in_ok-heads.ensures) (heads_fit c.self.inside.tables c.args.site.now c.self.invariant)
