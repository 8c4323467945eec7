use Rattle.std.proofs.Common.{arith}
use Rattle.desk_run.proofs.Spared.{spared}
use Rattle.desk_run.proofs.running.audit_by_first.Goals as goal

pub returns-clause-spares : goal.returns-clause-spares
returns-clause-spares g c = spared g.B.RuleBook.calls 1 c.args.books.now _ _ (omega (arith, c.split_at_mut-first.ensures.front_len, c.audit_by.auto.books)) c.split_at_mut-first.ensures.back
