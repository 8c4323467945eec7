use Rattle.std.proofs.Common.{arith}
use Rattle.sqlite.specs.Held.{state}
use Rattle.sqlite.specs.State.{HasCleanDisk}
use Rattle.keep_sql.proofs.Ready.{ready_same}
use Rattle.keep_sql.proofs.Wholes.{onward, of_ok}
use Rattle.keep_sql.proofs.Over.{edition_over}
use Rattle.keep_sql.proofs.changes.set_edition.Goals as goal

pub returns-clause-makes : goal.returns-clause-makes
returns-clause-makes g c clean ready =
    let s0 = state g.S.Store c.args.tx.now.conn.now in
    let s1 = state g.S.Store c.check_editions.new.tx.conn.now in
    let s2 = state g.S.Store c.write_edition.new.tx.conn.now in
    let clean1 : HasCleanDisk s1 = omega (arith, clean, c.write_edition.ensures.steps.survives.clean) in
    let found = of_ok c.check_editions.result c.in_ok-check_editions.field-0 c.in_ok-check_editions.was (c.check_editions.ensures.finds clean1 ready) in
    onward c.write_edition.result (edition_over c.args.number s0 s1 s2 found.1.0.now_is found.0) (c.write_edition.ensures.makes clean (ready_same s0 s1 ready found.1))
