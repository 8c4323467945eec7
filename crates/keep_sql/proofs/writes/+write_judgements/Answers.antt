use Rattle.std.proofs.Common.{arith}
use Rattle.sqlite.specs.Held.{state}
use Rattle.sqlite.specs.State.{HasCleanDisk}
use Rattle.keep_sql.proofs.Wholes.{onward, of_ok, single, parts, one_judgement, judgement_halves}
use Rattle.keep_sql.proofs.writes.+write_judgements.Goals as goal

pub returns-in-Some-clause-makes : goal.returns-in-Some-clause-makes
returns-in-Some-clause-makes g t c clean ready =
    onward c.write_judgement.result
    (one_judgement c.args.site.now c.args.page.now c.args.place c.args.js.now c.in-Some.judgement.now (state g.S.Store c.args.tx.now.conn.now) (state g.S.Store c.write_judgement.new.tx.conn.now)
    (single c.args.js.now c.in-Some.judgement.now c.in-Some.ensures.value c.if-js-lt2.true))
    (c.write_judgement.ensures.makes clean ready)

pub returns-clause-makes : goal.returns-clause-makes
returns-clause-makes g t c clean ready =
    let s0 = state g.S.Store c.args.tx.now.conn.now in
    let s1 = state g.S.Store c.write_judgements.new.tx.conn.now in
    let s2 = state g.S.Store c.write_judgements-2.new.tx.conn.now in
    let clean1 : HasCleanDisk s1 = omega (arith, clean, c.write_judgements-2.ensures.steps.survives.clean) in
    let first = of_ok c.write_judgements.result c.in_ok-write_judgements.field-0 c.in_ok-write_judgements.was (c.write_judgements.ensures.makes clean1 ready) in
    onward c.write_judgements-2.result
    (judgement_halves c.args.site.now c.args.page.now c.args.place c.in_ok-next.next c.args.js.now c.split_at.result.0.now c.split_at.result.1.now s0 s1 s2
    (parts c.args.js.now c.split_at.result.0.now c.split_at.result.1.now _ c.split_at.ensures.front c.split_at.ensures.back) c.in_ok-next.ensures first)
    (c.write_judgements-2.ensures.makes clean first.ready)
