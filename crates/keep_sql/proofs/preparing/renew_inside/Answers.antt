use Rattle.std.proofs.Common.{arith, subst}
use Rattle.sqlite.specs.Held.{state}
use Rattle.sqlite.specs.State.{HasCleanDisk}
use Rattle.keep_sql.specs.Reading.{rows_in}
use Rattle.keep_sql.specs.Preparing.{NotesInside, StaysFound}
use Rattle.keep_sql.proofs.Renewing.{found_last, noted_last}
use Rattle.keep_sql.proofs.preparing.renew_inside.Goals as goal

pub returns-in-Some-clause-makes : goal.returns-in-Some-clause-makes
returns-in-Some-clause-makes g c clean tables =
    let s0 = state g.S.Store c.args.tx.now.conn.now in
    let s1 = state g.S.Store c.make_last.new.tx.conn.now in
    let s2 = state g.S.Store c.note_inside.new.tx.conn.now in
    let clean1 : HasCleanDisk s1 = omega (arith, clean, c.note_inside.ensures.steps.survives.clean) in
    let made = c.in_ok-make_last.ensures.makes clean1 tables in
    let notes = subst (NotesInside (rows_in s1) s2) c.in-Some.is (c.in_ok-number.ensures.notes clean made.0) in
    let stays = subst (StaysFound s1 s2) c.in-Some.is (c.in_ok-number.ensures.stays clean made.0) in
    found_last s0 s1 s2 c.in-Some.number made.0 made.1 notes stays

pub returns-in-None-clause-makes : goal.returns-in-None-clause-makes
returns-in-None-clause-makes g c clean tables =
    let s0 = state g.S.Store c.args.tx.now.conn.now in
    let s1 = state g.S.Store c.make_last.new.tx.conn.now in
    let s2 = state g.S.Store c.note_inside.new.tx.conn.now in
    let clean1 : HasCleanDisk s1 = omega (arith, clean, c.note_inside.ensures.steps.survives.clean) in
    let made = c.in_ok-make_last.ensures.makes clean1 tables in
    let notes = subst (NotesInside (rows_in s1) s2) c.in-None.is (c.in_ok-number.ensures.notes clean made.0) in
    noted_last s0 s1 s2 made.1 notes.0 notes.1 notes.2
