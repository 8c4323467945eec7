use Rattle.std.proofs.Common.{length, sym, ap, ◌∙◌, arith}
use Rattle.sqlite.specs.Held.{state}
use Rattle.sqlite.specs.State.{HasCleanDisk}
use Rattle.keep_sql.proofs.Wholes.{onward, of_ok, single, parts}
use Rattle.keep_sql.proofs.Changed.{firsts_as_long, one_changed, changed_halves}
use Rattle.keep_sql.proofs.writes.+write_each_changed.Goals as goal

pub returns-in-Some-Some-clause-makes : goal.returns-in-Some-Some-clause-makes
returns-in-Some-Some-clause-makes g t c clean ready =
    onward c.write_changed.result
    (one_changed c.args.site.now c.args.page.now c.args.place c.args.kept.now c.args.outcomes.now c.in-Some-Some.kept.now c.in-Some-Some.outcome.now (state g.S.Store c.args.tx.now.conn.now) (state g.S.Store c.write_changed.new.tx.conn.now)
    (single c.args.kept.now c.in-Some-Some.kept.now c.in-Some-Some.ensures.value (omega (arith, c.requires.1.1.1, c.if-outcomes-lt2.true)))
    (single c.args.outcomes.now c.in-Some-Some.outcome.now c.in-Some-Some.ensures'.value c.if-outcomes-lt2.true))
    (c.write_changed.ensures.makes clean ready)

pub returns-clause-makes : goal.returns-clause-makes
returns-clause-makes g t c clean ready =
    let s0 = state g.S.Store c.args.tx.now.conn.now in
    let s1 = state g.S.Store c.write_each_changed.new.tx.conn.now in
    let s2 = state g.S.Store c.write_each_changed-2.new.tx.conn.now in
    let clean1 : HasCleanDisk s1 = omega (arith, clean, c.write_each_changed-2.ensures.steps.survives.clean) in
    let first = of_ok c.write_each_changed.result c.in_ok-write_each_changed.field-0 c.in_ok-write_each_changed.was (c.write_each_changed.ensures.makes clean1 ready) in
    let long = ap length c.split_at.ensures.front ∙ firsts_as_long _ c.args.kept.now c.args.outcomes.now c.requires.1.1.1 ∙ sym (ap length c.split_at-2.ensures.front) in
    onward c.write_each_changed-2.result
    (changed_halves c.args.site.now c.args.page.now c.args.place c.in_ok-next.next c.args.kept.now c.split_at.result.0.now c.split_at.result.1.now c.args.outcomes.now c.split_at-2.result.0.now c.split_at-2.result.1.now s0 s1 s2
    (parts c.args.kept.now c.split_at.result.0.now c.split_at.result.1.now _ c.split_at.ensures.front c.split_at.ensures.back)
    (parts c.args.outcomes.now c.split_at-2.result.0.now c.split_at-2.result.1.now _ c.split_at-2.ensures.front c.split_at-2.ensures.back) long c.in_ok-next.ensures first)
    (c.write_each_changed-2.ensures.makes clean first.ready)
