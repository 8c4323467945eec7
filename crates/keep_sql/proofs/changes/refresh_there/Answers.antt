use Rattle.std.proofs.Common.{arith, ap, ap₂, ◌∙◌}
use Rattle.sqlite.specs.Effect.{Database}
use Rattle.sqlite.specs.Held.{state}
use Rattle.sqlite.specs.State.{HasCleanDisk}
use Rattle.store_statements.specs.Stored.{stored, outcomes_at}
use Rattle.store_tables.specs.Outcomes.{outcomes_shown}
use Rattle.keep_sql.specs.Reading.{outcomes_in}
use Rattle.keep_sql.proofs.Ready.{ready_same}
use Rattle.keep_sql.proofs.Wholes.{onward}
use Rattle.keep_sql.proofs.Over.{refreshed_over, renamed}
use Rattle.keep_sql.proofs.changes.refresh_there.Goals as goal

pub returns-clause-makes : goal.returns-clause-makes
returns-clause-makes g c clean ready =
    let site = c.args.site.now in
    let page = c.args.one.now.page in
    let s0 = state g.S.Store c.args.tx.now.conn.now in
    let s1 = state g.S.Store c.outcomes_in.new.tx.conn.now in
    let s2 = state g.S.Store c.write_outcomes.new.tx.conn.now in
    let clean1 : HasCleanDisk s1 = omega (arith, clean, c.write_outcomes.ensures.steps.survives.clean) in
    let same = c.in_ok-kept.ensures.same clean1 ready in
    let shown = c.in_ok-kept.ensures.reads clean1 ready in
    let still = ap (λ (d : Database). outcomes_shown (outcomes_at site page (stored d.trees))) same.0.now_is ∙ shown in
    onward c.write_outcomes.result
    (λ made. refreshed_over site c.args.one.now c.in_ok-kept.kept s0 s1 s2 same.0.now_is shown
    (renamed site page c.as_str-site.result.now c.as_str-page.result.now c.args.one.now.outcomes s1 s2 c.as_str-site.ensures c.as_str-page.ensures made))
    (c.write_outcomes.ensures.makes (ap₂ (λ n m. outcomes_in n m s1) c.as_str-site.ensures c.as_str-page.ensures ∙ still) clean (ready_same s0 s1 ready same))
