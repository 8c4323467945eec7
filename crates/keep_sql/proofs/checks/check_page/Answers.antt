use Rattle.std.proofs.Common.{arith, refl, sym, ap, ◌∙◌}
use Rattle.sqlite.specs.Effect.{Database}
use Rattle.sqlite.specs.Held.{state}
use Rattle.sqlite.specs.State.{HasCleanDisk}
use Rattle.store_statements.specs.Stored.{judgements_at, outcomes_at, stored}
use Rattle.store_tables.specs.Judgements.{judgements_shown}
use Rattle.store_tables.specs.Outcomes.{outcomes_shown}
use Rattle.keep_sql.specs.Reading.{rows_in}
use Rattle.keep_sql.proofs.Ready.{ready_same}
use Rattle.keep_sql.proofs.Checking.{unchanged_through, still_recalled, reads_page}
use Rattle.keep_sql.proofs.Stepping.{steps_then}
use Rattle.keep_sql.proofs.checks.check_page.Goals as goal

pub returns-clause-steps : goal.returns-clause-steps
returns-clause-steps g c =
    let through = steps_then g.S.Store c.args.tx.now.conn c.page_in.new.tx.conn c.judgements_in.new.tx.conn c.in_ok-found.found _ c.in_ok-found.ensures.steps c.in_ok-judgements.ensures.steps in
    steps_then g.S.Store c.args.tx.now.conn c.judgements_in.new.tx.conn c.kept_outcomes.new.tx.conn c.in_ok-judgements.judgements _ through c.in_ok-outcomes.ensures.steps

pub returns-clause-finds : goal.returns-clause-finds
returns-clause-finds g c clean ready recalls =
    let site = c.args.site.now in
    let page = c.args.page.now in
    let s0 = state g.S.Store c.args.tx.now.conn.now in
    let s1 = state g.S.Store c.page_in.new.tx.conn.now in
    let s2 = state g.S.Store c.judgements_in.new.tx.conn.now in
    let s3 = state g.S.Store c.kept_outcomes.new.tx.conn.now in
    let clean2 : HasCleanDisk s2 = omega (arith, clean, c.kept_outcomes.ensures.steps.survives.clean) in
    let clean1 : HasCleanDisk s1 = omega (arith, clean2, c.judgements_in.ensures.steps.survives.clean) in
    let same1 = c.in_ok-found.ensures.same clean1 ready in
    let ready1 = ready_same s0 s1 ready same1 in
    let same2 = c.in_ok-judgements.ensures.same clean2 ready1 in
    let ready2 = ready_same s1 s2 ready1 same2 in
    let same3 = c.in_ok-outcomes.ensures.same clean ready2 same2.0.is_open in
    let first_two = unchanged_through s0 s1 s2 same1 same2 in
    let judged = ap (λ (d : Database). judgements_shown (judgements_at site page (stored d.trees))) same1.0.now_is in
    let audited = ap (λ (d : Database). outcomes_shown (outcomes_at site page (stored d.trees))) first_two.0.now_is in (
      reads_page site page (rows_in s0) c.in_ok-found.found c.in_ok-judgements.judgements c.in_ok-outcomes.outcomes (c.in_ok-found.ensures.reads clean1 ready)
          (sym judged ∙ c.in_ok-judgements.ensures.reads clean2 ready1) (sym audited ∙ c.in_ok-outcomes.ensures.reads clean ready2 same2.0.is_open (still_recalled c.args.known s0 s2 first_two recalls)) (c.if-not-are_housed.ensures refl),
      unchanged_through s0 s2 s3 first_two same3,
    )

pub returns-clause-reads : goal.returns-clause-reads
returns-clause-reads g c clean ready recalls =
    let s0 = state g.S.Store c.args.tx.now.conn.now in
    let s1 = state g.S.Store c.page_in.new.tx.conn.now in
    let s2 = state g.S.Store c.judgements_in.new.tx.conn.now in
    let clean2 : HasCleanDisk s2 = omega (arith, clean, c.kept_outcomes.ensures.steps.survives.clean) in
    let clean1 : HasCleanDisk s1 = omega (arith, clean2, c.judgements_in.ensures.steps.survives.clean) in
    let same1 = c.in_ok-found.ensures.same clean1 ready in
    let ready1 = ready_same s0 s1 ready same1 in
    let same2 = c.in_ok-judgements.ensures.same clean2 ready1 in
    let same = unchanged_through s0 s1 s2 same1 same2 in
    sym (ap (λ (d : Database). outcomes_shown (outcomes_at c.args.site.now c.args.page.now (stored d.trees))) same.0.now_is)
    ∙ c.in_ok-outcomes.ensures.reads clean (ready_same s1 s2 ready1 same2) same2.0.is_open (still_recalled c.args.known s0 s2 same recalls)
