use Rattle.keep_core.proofs.Fitting.{fit_after}
use Rattle.keep_core.proofs.memory.MemoryKeeperKeeper.apply.Goals as goal

pub invariant_of-self-2 : goal.invariant_of-self-2
invariant_of-self-2 c =
    fit_after c.make.result c.args.batch.now.change c.self.inside.tables c.make.new.tables c.requires.fits c.self.invariant c.make.ensures.made c.make.ensures.kept
