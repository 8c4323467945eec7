use Rattle.std.proofs.Common.{inl}
use Rattle.store_run.proofs.Opened.{not_opened}
use Rattle.store_run.proofs.opening.run_file.Goals as goal

pub returns-in-Ok : goal.returns-in-Ok
returns-in-Ok g c = inl (record { conn = c.in-Ok.conn; opened = c.in-Ok.ensures.opened; finds = c.in-Ok.ensures.found; runs = c.run_over.ensures })

pub returns : goal.returns
returns g c = not_opened _ g.B.RuleBook.book c.args.words.now _ _ _ c.in-Err.error c.refusal_by.result _ _ _ _ _ _ _ _ c.in-Err.ensures.named c.refusal_by.ensures c.refuse.ensures
