use Rattle.desk_core.proofs.Keeping.{keeps_sound}
use Rattle.desk_core.proofs.laws.laws_of_soundness.Goals as goal

pub returns-clause-kept : goal.returns-clause-kept
returns-clause-kept c = keeps_sound
