use Rattle.sqlite.specs.Held.{state}
use Rattle.keep_sql.proofs.Wholes.{outcome_added, of_ok}
use Rattle.keep_sql.proofs.writes.write_outcome.Goals as goal

pub returns-clause-makes : goal.returns-clause-makes
returns-clause-makes g c clean ready =
    outcome_added c.args.site.now c.args.page.now c.args.place c.args.outcome.now c.in_ok-row.row (state g.S.Store c.args.tx.now.conn.now) (state g.S.Store c.put_outcome.new.tx.conn.now)
    c.in_ok-row.ensures (of_ok c.put_outcome.result c.in_ok-put_outcome.field-0 c.in_ok-put_outcome.was (c.put_outcome.ensures.makes clean ready))
