use Rattle.sqlite.specs.Held.{state}
use Rattle.keep_sql.proofs.Wholes.{judgement_added, of_ok}
use Rattle.keep_sql.proofs.writes.write_judgement.Goals as goal

pub returns-clause-makes : goal.returns-clause-makes
returns-clause-makes g c clean ready =
    judgement_added c.args.site.now c.args.page.now c.args.place c.args.judgement.now c.in_ok-row.row (state g.S.Store c.args.tx.now.conn.now) (state g.S.Store c.add_judgement.new.tx.conn.now)
    c.in_ok-row.ensures (of_ok c.add_judgement.result c.in_ok-add_judgement.field-0 c.in_ok-add_judgement.was (c.add_judgement.ensures.makes clean ready))
