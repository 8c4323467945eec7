use Rattle.std.proofs.Common.{arith, ap₂, subst, ◌∙◌}
use Rattle.sqlite.specs.Held.{state}
use Rattle.sqlite.specs.State.{HasCleanDisk}
use Rattle.store_statements.specs.Changes.{Makes}
use Rattle.keep_sql.specs.Reading.{outcomes_in}
use Rattle.keep_sql.proofs.Ready.{ready_same}
use Rattle.keep_sql.proofs.Wholes.{onward, of_ok}
use Rattle.keep_sql.proofs.Over.{AddsRows, shown_behind_judgements, judgements_over, renamed}
use Rattle.keep_sql.proofs.changes.judge.Goals as goal

pub returns-clause-makes : goal.returns-clause-makes
returns-clause-makes g c clean ready recalls =
    let s0 = state g.S.Store c.args.tx.now.conn.now in
    let s1 = state g.S.Store c.check_judged.new.tx.conn.now in
    let s2 = state g.S.Store c.write_judgements.new.tx.conn.now in
    let s3 = state g.S.Store c.write_outcomes.new.tx.conn.now in
    let clean2 : HasCleanDisk s2 = omega (arith, clean, c.write_outcomes.ensures.steps.survives.clean) in
    let clean1 : HasCleanDisk s1 = omega (arith, clean2, c.write_judgements.ensures.steps.survives.clean) in
    let found = c.in_ok-place.ensures.finds clean1 ready recalls in
    let row = of_ok c.write_judgements.result c.in_ok-write_judgements.field-0 c.in_ok-write_judgements.was (c.write_judgements.ensures.makes clean2 (ready_same s0 s1 ready found.1)) in
    let judged : Makes (AddsRows c.args.site.now c.args.page.now c.in_ok-place.place c.args.js.now) s1 s2 =
    subst (λ n. Makes (AddsRows n c.args.page.now c.in_ok-place.place c.args.js.now) s1 s2) c.as_str-site.ensures
    (subst (λ n. Makes (AddsRows c.as_str-site.result.now n c.in_ok-place.place c.args.js.now) s1 s2) c.as_str-page.ensures
    (subst (λ js. Makes (AddsRows c.as_str-site.result.now c.as_str-page.result.now c.in_ok-place.place js) s1 s2) c.as_slice.ensures row)) in
    let shown =
    shown_behind_judgements c.args.site.now c.args.page.now c.in_ok-place.place c.args.js.now c.in_ok-place.kept s0 s1 s2 found.1.0.now_is judged (c.in_ok-place.ensures.reads clean1 ready recalls) in
    onward c.write_outcomes.result
    (λ made. judgements_over c.args.site.now c.args.page.now c.in_ok-place.place c.args.js.now c.args.outcomes.now s0 s1 s2 s3 found.1.0.now_is found.0.0 found.0.1 judged
    (renamed c.args.site.now c.args.page.now c.as_str-site.result.now c.as_str-page.result.now c.args.outcomes.now s2 s3 c.as_str-site.ensures c.as_str-page.ensures made))
    (c.write_outcomes.ensures.makes (ap₂ (λ n m. outcomes_in n m s2) c.as_str-site.ensures c.as_str-page.ensures ∙ shown) clean row.ready)
