use Rattle.store_run.proofs.Told.{same_refusal}
use Rattle.store_run.proofs.refusal.refuse.Goals as goal

pub returns-in-OtherEdition : goal.returns-in-OtherEdition
returns-in-OtherEdition g c = same_refusal c.args.refusal c.in-OtherEdition.number _ _ _ c.refuse_edition.ensures c.in-OtherEdition.is
