use Rattle.sqlite.specs.Held.{state}
use Rattle.sql_rows.proofs.Kept.{executed_steps, if_executed}
use Rattle.store_statements.proofs.MakeTexts.{makes_languages}
use Rattle.store_statements.proofs.languages.make_languages.Goals as goal

pub returns-clause-makes : goal.returns-clause-makes
returns-clause-makes g c clean was =
    let old = state g.S.Store c.args.tx.now.conn.now in
    let new = state g.S.Store c.execute.new.self.conn.now in
    if_executed _ _ old new c.execute.result _ (λ count. makes_languages old new count was) (c.execute.ensures.runs clean was.inside)

pub returns-clause-steps : goal.returns-clause-steps
returns-clause-steps g c = executed_steps g.S.Store _ _ c.args.tx.now.conn c.execute.new.self.conn c.execute.result c.execute.ensures.same_reference c.execute.ensures.survives c.execute.ensures.runs
