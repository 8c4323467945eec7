use Rattle.std.proofs.Common.{pos, arith, subst}
use Rattle.sqlite.specs.Held.{state}
use Rattle.sqlite.specs.State.{HasCleanDisk}
use Rattle.store_statements.specs.Changes.{Makes, PutsSite}
use Rattle.keep_sql.specs.Reading.{rows_in}
use Rattle.keep_sql.proofs.Ready.{ready_same}
use Rattle.keep_sql.proofs.Wholes.{onward, of_ok}
use Rattle.keep_sql.proofs.Over.{from_same, recalled_behind_site}
use Rattle.keep_sql.proofs.changes.put_pages.Goals as goal

pub returns-clause-makes : goal.returns-clause-makes
returns-clause-makes g c clean ready recalls =
    let site = c.args.site.now in
    let s0 = state g.S.Store c.args.tx.now.conn.now in
    let s1 = state g.S.Store c.check_kept.new.tx.conn.now in
    let s2 = state g.S.Store c.write_site.new.tx.conn.now in
    let clean2 : HasCleanDisk s2 = omega (arith, clean, c.put_each.ensures.steps.survives.clean) in
    let clean1 : HasCleanDisk s1 = omega (arith, clean2, c.write_site.ensures.steps.survives.clean) in
    let found = of_ok c.check_kept.result c.in_ok-check_kept.field-0 c.in_ok-check_kept.was (c.check_kept.ensures.finds clean1 ready) in
    let row = of_ok c.write_site.result c.in_ok-write_site.field-0 c.in_ok-write_site.was (c.write_site.ensures.makes clean2 (ready_same s0 s1 ready found.1)) in
    let sited : Makes (PutsSite site (pos c.args.counter)) s1 s2 = subst (λ n. Makes (PutsSite n (pos c.args.counter)) s1 s2) c.as_str.ensures row in
    onward c.put_each.result
    (λ made. record {
      ready = made.ready;
      change = record { kept = found.0.0; reads = found.0.1; mid = rows_in s2; counts = (from_same (PutsSite site (pos c.args.counter)) s0 s1 s2 found.1.0.now_is sited).change; each = made.change };
    })
    (c.put_each.ensures.makes clean row.ready (recalled_behind_site c.args.known site (pos c.args.counter) s0 s1 s2 found.1 sited recalls))
