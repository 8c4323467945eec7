use Rattle.std.proofs.Common.{arith}
use Rattle.sqlite.specs.Held.{state}
use Rattle.sqlite.specs.State.{HasCleanDisk}
use Rattle.keep_sql.proofs.Wholes.{onward, of_ok, whole_languages}
use Rattle.keep_sql.proofs.writes.write_languages.Goals as goal

pub returns-clause-makes : goal.returns-clause-makes
returns-clause-makes g c clean ready =
    let s0 = state g.S.Store c.args.tx.now.conn.now in
    let s1 = state g.S.Store c.drop_languages.new.tx.conn.now in
    let s2 = state g.S.Store c.add_languages.new.tx.conn.now in
    let clean1 : HasCleanDisk s1 = omega (arith, clean, c.add_languages.ensures.steps.survives.clean) in
    let first = of_ok c.drop_languages.result c.in_ok-drop_languages.field-0 c.in_ok-drop_languages.was (c.drop_languages.ensures.makes clean1 ready) in
    onward c.add_languages.result (whole_languages c.args.site.now c.args.languages.now s0 s1 s2 first) (c.add_languages.ensures.makes clean first.ready)
