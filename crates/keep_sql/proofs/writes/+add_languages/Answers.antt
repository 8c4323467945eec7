use Rattle.std.proofs.Common.{arith}
use Rattle.sqlite.specs.Held.{state}
use Rattle.sqlite.specs.State.{HasCleanDisk}
use Rattle.keep_sql.proofs.Wholes.{onward, of_ok, single, parts, one_language, language_halves}
use Rattle.keep_sql.proofs.writes.+add_languages.Goals as goal

pub returns-in-Some-clause-makes : goal.returns-in-Some-clause-makes
returns-in-Some-clause-makes g t c clean ready =
    onward c.write_language.result
    (one_language c.args.site.now c.args.place c.args.languages.now c.in-Some.tag.now (state g.S.Store c.args.tx.now.conn.now) (state g.S.Store c.write_language.new.tx.conn.now)
    (single c.args.languages.now c.in-Some.tag.now c.in-Some.ensures.value c.if-languages-lt2.true))
    (c.write_language.ensures.makes clean ready)

pub returns-clause-makes : goal.returns-clause-makes
returns-clause-makes g t c clean ready =
    let s0 = state g.S.Store c.args.tx.now.conn.now in
    let s1 = state g.S.Store c.add_languages.new.tx.conn.now in
    let s2 = state g.S.Store c.add_languages-2.new.tx.conn.now in
    let clean1 : HasCleanDisk s1 = omega (arith, clean, c.add_languages-2.ensures.steps.survives.clean) in
    let first = of_ok c.add_languages.result c.in_ok-add_languages.field-0 c.in_ok-add_languages.was (c.add_languages.ensures.makes clean1 ready) in
    onward c.add_languages-2.result
    (language_halves c.args.site.now c.args.place c.in_ok-next.next c.args.languages.now c.split_at.result.0.now c.split_at.result.1.now s0 s1 s2
    (parts c.args.languages.now c.split_at.result.0.now c.split_at.result.1.now _ c.split_at.ensures.front c.split_at.ensures.back) c.in_ok-next.ensures first)
    (c.add_languages-2.ensures.makes clean first.ready)
