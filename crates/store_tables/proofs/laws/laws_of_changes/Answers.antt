use Rattle.store_tables.proofs.Tells.{applies_tells}
use Rattle.store_tables.proofs.Applied.{applied}
use Rattle.store_tables.proofs.laws.laws_of_changes.Goals as goal

pub returns : goal.returns
returns c = record { applied = applied; tells = applies_tells }
