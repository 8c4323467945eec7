use Rattle.std.proofs.Common.{arith, subst}
use Rattle.sqlite.specs.Held.{state}
use Rattle.sqlite.specs.State.{HasCleanDisk}
use Rattle.store_statements.specs.Changes.{Makes}
use Rattle.store_tables.specs.Batches.{RefreshesEach}
use Rattle.keep_sql.proofs.Ready.{ready_same}
use Rattle.keep_sql.proofs.Wholes.{onward, of_ok}
use Rattle.keep_sql.proofs.Over.{Lists, relisted_over}
use Rattle.keep_sql.proofs.changes.relist.Goals as goal

pub returns-clause-makes : goal.returns-clause-makes
returns-clause-makes g c clean ready =
    let site = c.args.site.now in
    let s0 = state g.S.Store c.args.tx.now.conn.now in
    let s1 = state g.S.Store c.check_kept.new.tx.conn.now in
    let s2 = state g.S.Store c.write_languages.new.tx.conn.now in
    let s3 = state g.S.Store c.refresh_each.new.tx.conn.now in
    let clean2 : HasCleanDisk s2 = omega (arith, clean, c.refresh_each.ensures.steps.survives.clean) in
    let clean1 : HasCleanDisk s1 = omega (arith, clean2, c.write_languages.ensures.steps.survives.clean) in
    let found = of_ok c.check_kept.result c.in_ok-check_kept.field-0 c.in_ok-check_kept.was (c.check_kept.ensures.finds clean1 ready) in
    let rows = of_ok c.write_languages.result c.in_ok-write_languages.field-0 c.in_ok-write_languages.was (c.write_languages.ensures.makes clean2 (ready_same s0 s1 ready found.1)) in
    let listed : Makes (Lists site c.args.languages.now) s1 s2 =
    subst (λ n. Makes (Lists n c.args.languages.now) s1 s2) c.as_str.ensures (subst (λ ls. Makes (Lists c.as_str.result.now ls) s1 s2) c.as_slice.ensures rows) in
    onward c.refresh_each.result
    (λ made. relisted_over site c.args.languages.now c.args.outcomes.now s0 s1 s2 s3 found.1.0.now_is found.0.0 found.0.1 listed
    (subst (λ os. Makes (RefreshesEach site os) s2 s3) c.as_slice-2.ensures made))
    (c.refresh_each.ensures.makes clean rows.ready)
