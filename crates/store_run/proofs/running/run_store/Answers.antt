use Rattle.std.proofs.Common.{◌≢◌, Ok}
use Rattle.keep_sql.specs.declared.keeper.Prepared.TheVariants as prepared
use Rattle.store_run.specs.declared.refusal.StoreRefusal.TheVariants.{OtherEdition}
use Rattle.store_run.proofs.Told.{store_refused, other_edition}
use Rattle.store_run.proofs.running.run_store.Goals as goal

pub returns-in-Ok-OtherEdition : goal.returns-in-Ok-OtherEdition
returns-in-Ok-OtherEdition g c =
    let not_ready : c.prepare.result ≢ Ok prepared.Ready = λ is. cc (is, c.in-Ok-OtherEdition.is, c.in-Ok-OtherEdition.field-0-is) in
    store_refused g.S.Store g.B.RuleBook.book c.args.words.now c.args.keeper.now c.prepare.new.self _ _ _ _ _ _ _ _ _ _ (OtherEdition c.in-Ok-OtherEdition.number) c.refuse.ensures
    (other_edition g.S.Store c.args.keeper.now c.prepare.new.self c.in-Ok-OtherEdition.field-0 c.in-Ok-OtherEdition.number c.in-Ok-OtherEdition.field-0-is c.in-Ok-OtherEdition.ensures.edition c.in-Ok-OtherEdition.ensures.noted c.in-Ok-OtherEdition.ensures.found)
    (c.prepare.ensures.stays not_ready) c.prepare.ensures.crash
    (c.prepare.ensures.waits not_ready) c.prepare.ensures.faults.never_falls
