use Rattle.std.proofs.Common.{arith}
use Rattle.sqlite.specs.Held.{state}
use Rattle.sqlite.specs.State.{HasCleanDisk}
use Rattle.keep_sql.proofs.Wholes.{onward, of_ok, whole_outcomes}
use Rattle.keep_sql.proofs.writes.write_outcomes.Goals as goal

pub returns-clause-makes : goal.returns-clause-makes
returns-clause-makes g c _ clean ready =
    let s0 = state g.S.Store c.args.tx.now.conn.now in
    let s1 = state g.S.Store c.drop_outcomes.new.tx.conn.now in
    let s2 = state g.S.Store c.add_outcomes.new.tx.conn.now in
    let clean1 : HasCleanDisk s1 = omega (arith, clean, c.add_outcomes.ensures.steps.survives.clean) in
    let first = of_ok c.drop_outcomes.result c.in_ok-drop_outcomes.field-0 c.in_ok-drop_outcomes.was (c.drop_outcomes.ensures.makes clean1 ready) in
    onward c.add_outcomes.result
    (whole_outcomes c.args.site.now c.args.page.now c.args.outcomes.now c.as_slice.result.now s0 s1 s2 c.as_slice.ensures first)
    (c.add_outcomes.ensures.makes clean first.ready)
