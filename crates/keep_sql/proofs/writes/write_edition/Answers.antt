use Rattle.std.proofs.Common.{arith}
use Rattle.sqlite.specs.Held.{state}
use Rattle.sqlite.specs.State.{HasCleanDisk}
use Rattle.keep_sql.proofs.Wholes.{onward, of_ok, whole_edition}
use Rattle.keep_sql.proofs.writes.write_edition.Goals as goal

pub returns-clause-makes : goal.returns-clause-makes
returns-clause-makes g c clean ready =
    let s0 = state g.S.Store c.args.tx.now.conn.now in
    let s1 = state g.S.Store c.drop_editions.new.tx.conn.now in
    let s2 = state g.S.Store c.note_edition.new.tx.conn.now in
    let clean1 : HasCleanDisk s1 = omega (arith, clean, c.note_edition.ensures.steps.survives.clean) in
    let first = of_ok c.drop_editions.result c.in_ok-drop_editions.field-0 c.in_ok-drop_editions.was (c.drop_editions.ensures.makes clean1 ready) in
    onward c.note_edition.result (whole_edition c.args.number s0 s1 s2 first) (c.note_edition.ensures.makes clean first.ready)
