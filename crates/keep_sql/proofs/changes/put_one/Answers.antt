use Rattle.std.proofs.Common.{arith, ap₂, subst, ◌∙◌}
use Rattle.sqlite.specs.Held.{state}
use Rattle.sqlite.specs.State.{HasCleanDisk}
use Rattle.store_statements.specs.Changes.{Makes}
use Rattle.keep_sql.specs.Reading.{outcomes_in}
use Rattle.keep_sql.proofs.Ready.{ready_same}
use Rattle.keep_sql.proofs.Wholes.{onward, of_ok}
use Rattle.keep_sql.proofs.Over.{PutsRow, shown_behind_page, page_over, renamed}
use Rattle.keep_sql.proofs.changes.put_one.Goals as goal

pub returns-clause-makes : goal.returns-clause-makes
returns-clause-makes g c clean ready recalls =
    let site = c.args.site.now in
    let s0 = state g.S.Store c.args.tx.now.conn.now in
    let s1 = state g.S.Store c.check_page.new.tx.conn.now in
    let s2 = state g.S.Store c.write_page.new.tx.conn.now in
    let s3 = state g.S.Store c.write_outcomes.new.tx.conn.now in
    let clean2 : HasCleanDisk s2 = omega (arith, clean, c.write_outcomes.ensures.steps.survives.clean) in
    let clean1 : HasCleanDisk s1 = omega (arith, clean2, c.write_page.ensures.steps.survives.clean) in
    let found = c.in_ok-kept.ensures.finds clean1 ready recalls in
    let row = of_ok c.write_page.result c.in_ok-write_page.field-0 c.in_ok-write_page.was (c.write_page.ensures.makes clean2 (ready_same s0 s1 ready found.1)) in
    let paged : Makes (PutsRow site c.args.put.now) s1 s2 = subst (λ n. Makes (PutsRow n c.args.put.now) s1 s2) c.as_str-site.ensures row in
    let shown = shown_behind_page site c.args.put.now c.in_ok-kept.kept s0 s1 s2 found.1.0.now_is paged (c.in_ok-kept.ensures.reads clean1 ready recalls) in
    onward c.write_outcomes.result
    (λ made. page_over site c.args.put.now s0 s1 s2 s3 found.1.0.now_is found.0 paged
    (renamed site c.args.put.now.page.head.page c.as_str-site.result.now c.as_str.result.now c.args.put.now.outcomes s2 s3 c.as_str-site.ensures c.as_str.ensures made))
    (c.write_outcomes.ensures.makes (ap₂ (λ n m. outcomes_in n m s2) c.as_str-site.ensures c.as_str.ensures ∙ shown) clean row.ready)
