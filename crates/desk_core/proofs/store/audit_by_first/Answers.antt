use Rattle.std.proofs.Common.{arith}
use Rattle.std.proofs.lemmas.List.{drop-set-lt}
use Rattle.std.proofs.lemmas.Grind.{common_steps}
use Rattle.desk_core.proofs.store.audit_by_first.Goals as goal

pub returns-clause-costs : goal.returns-clause-costs
returns-clause-costs g c = record { counted = grind (arith, common_steps); others = drop-set-lt 1 c.args.books.now 0 _ (omega arith) }
