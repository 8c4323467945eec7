use Rattle.std.proofs.Common.{sym}
use Rattle.sqlite.specs.Held.{state}
use Rattle.keep_sql.proofs.Wholes.{onward}
use Rattle.keep_sql.proofs.Changed.{same_unchanged, other_changed}
use Rattle.keep_sql.proofs.writes.write_changed.Goals as goal

pub returns-then-is_same-clause-makes : goal.returns-then-is_same-clause-makes
returns-then-is_same-clause-makes g c clean ready =
    same_unchanged c.args.site.now c.args.page.now c.args.place c.args.kept.now c.args.outcome.now (state g.S.Store c.args.tx.now.conn.now) ready (sym c.if-is_same.ensures)

pub returns-clause-makes : goal.returns-clause-makes
returns-clause-makes g c clean ready =
    onward c.write_outcome.result
    (other_changed c.args.site.now c.args.page.now c.args.place c.args.kept.now c.args.outcome.now (state g.S.Store c.args.tx.now.conn.now) (state g.S.Store c.write_outcome.new.tx.conn.now) (sym c.if-is_same.ensures))
    (c.write_outcome.ensures.makes clean ready)
