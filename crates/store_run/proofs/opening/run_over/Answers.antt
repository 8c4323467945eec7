use Rattle.store_run.proofs.Opened.{run_is_over}
use Rattle.store_run.proofs.opening.run_over.Goals as goal

pub returns : goal.returns
returns g c =
    run_is_over _ g.B.RuleBook.book c.args.words.now _ _ c.args.conn c.new-keeper.result c.run_store.new.keeper _ _ _ _ _ _ _ _ _ c.new-keeper.ensures c.run_store.ensures
