use Rattle.std.proofs.Common.{arith, ◌≡◌, Some, IfOk, ap, subst, ◌∙◌}
use Rattle.sqlite.specs.Effect.{Database}
use Rattle.sqlite.specs.Held.{state}
use Rattle.sqlite.specs.State.{HasCleanDisk}
use Rattle.store_statements.specs.Stored.{stored, site_at, members_at, languages_at}
use Rattle.store_tables.specs.Sites.{site_shown}
use Rattle.keep_sql.proofs.Ready.{ready_same}
use Rattle.keep_sql.proofs.Checking.{always, unchanged_through}
use Rattle.keep_sql.proofs.reads.site_in.Goals as goal

pub returns-clause-reads : goal.returns-clause-reads
returns-clause-reads g c clean ready =
    let s0 = state g.S.Store c.args.tx.now.conn.now in
    let s1 = state g.S.Store c.site_row.new.tx.conn.now in
    let s2 = state g.S.Store c.site_members.new.tx.conn.now in
    let clean2 : HasCleanDisk s2 = omega (arith, clean, c.site_languages.ensures.steps.survives.clean) in
    let clean1 : HasCleanDisk s1 = omega (arith, clean2, c.site_members.ensures.steps.survives.clean) in
    let first = c.in_ok-counters.ensures.shown clean1 ready in
    let ready1 = ready_same s0 s1 ready first.1 in
    let second = c.in_ok-members.ensures.shown clean2 ready1 in
    let third = c.in_ok-languages.ensures.shown clean (ready_same s1 s2 ready1 second.1) in
    let counters = c.as_slice.ensures.value ∙ first.0 ∙ ap (λ n. site_at n (stored s0.now.trees)) c.as_str.ensures in
    let members =
    c.as_slice-2.ensures.value ∙ second.0 ∙ ap (λ n. members_at n (stored s1.now.trees)) c.as_str-2.ensures
    ∙ ap (λ (d : Database). members_at c.args.site.now (stored d.trees)) first.1.0.now_is in
    let languages =
    c.as_slice-3.ensures.value ∙ third.0 ∙ ap (λ n. languages_at n (stored s2.now.trees)) c.as_str-3.ensures
    ∙ ap (λ (d : Database). languages_at c.args.site.now (stored d.trees)) (second.1.0.now_is ∙ first.1.0.now_is) in
    subst (λ rows. IfOk c.site.result (λ found. site_shown c.args.site.now rows (members_at c.args.site.now (stored s0.now.trees)) (languages_at c.args.site.now (stored s0.now.trees)) ≡ Some found)) counters
    (subst (λ rows. IfOk c.site.result (λ found. site_shown c.args.site.now c.as_slice.result.now rows (languages_at c.args.site.now (stored s0.now.trees)) ≡ Some found)) members
    (subst (λ rows. IfOk c.site.result (λ found. site_shown c.args.site.now c.as_slice.result.now c.as_slice-2.result.now rows ≡ Some found)) languages c.site.ensures.reads))

pub returns-clause-same : goal.returns-clause-same
returns-clause-same g c clean ready =
    let s0 = state g.S.Store c.args.tx.now.conn.now in
    let s1 = state g.S.Store c.site_row.new.tx.conn.now in
    let s2 = state g.S.Store c.site_members.new.tx.conn.now in
    let s3 = state g.S.Store c.site_languages.new.tx.conn.now in
    let clean2 : HasCleanDisk s2 = omega (arith, clean, c.site_languages.ensures.steps.survives.clean) in
    let clean1 : HasCleanDisk s1 = omega (arith, clean2, c.site_members.ensures.steps.survives.clean) in
    let first = c.in_ok-counters.ensures.shown clean1 ready in
    let ready1 = ready_same s0 s1 ready first.1 in
    let second = c.in_ok-members.ensures.shown clean2 ready1 in
    let third = c.in_ok-languages.ensures.shown clean (ready_same s1 s2 ready1 second.1) in
    always c.site.result (unchanged_through s0 s2 s3 (unchanged_through s0 s1 s2 first.1 second.1) third.1)
