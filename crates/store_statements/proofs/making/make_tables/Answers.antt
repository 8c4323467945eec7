use Rattle.std.proofs.Common.{arith, refl, ◌∙◌}
use Rattle.sqlite.specs.Held.{state}
use Rattle.sqlite.specs.State.{HasCleanDisk}
use Rattle.store_statements.proofs.making.make_tables.Goals as goal

pub returns-clause-makes : goal.returns-clause-makes
returns-clause-makes g c clean was =
    let s1 = state g.S.Store c.make_sites.new.tx.conn.now in
    let s2 = state g.S.Store c.make_members.new.tx.conn.now in
    let s3 = state g.S.Store c.make_pages.new.tx.conn.now in
    let s4 = state g.S.Store c.make_judgements.new.tx.conn.now in
    let s5 = state g.S.Store c.make_outcomes.new.tx.conn.now in
    let s6 = state g.S.Store c.make_edition.new.tx.conn.now in
    let clean6 : HasCleanDisk s6 = omega (arith, clean, c.make_languages.ensures.steps.survives.clean) in
    let clean5 : HasCleanDisk s5 = omega (arith, clean6, c.make_edition.ensures.steps.survives.clean) in
    let clean4 : HasCleanDisk s4 = omega (arith, clean5, c.make_outcomes.ensures.steps.survives.clean) in
    let clean3 : HasCleanDisk s3 = omega (arith, clean4, c.make_judgements.ensures.steps.survives.clean) in
    let clean2 : HasCleanDisk s2 = omega (arith, clean3, c.make_pages.ensures.steps.survives.clean) in
    let clean1 : HasCleanDisk s1 = omega (arith, clean2, c.make_members.ensures.steps.survives.clean) in
    let made0 = c.in_ok-make_sites.ensures.makes clean1 was in
    let made1 = c.in_ok-make_members.ensures.makes clean2 made0.ready in
    let made2 = c.in_ok-make_pages.ensures.makes clean3 made1.ready in
    let made3 = c.in_ok-make_judgements.ensures.makes clean4 made2.ready in
    let made4 = c.in_ok-make_outcomes.ensures.makes clean5 made3.ready in
    let made5 = c.in_ok-make_edition.ensures.makes clean6 made4.ready in
    let made6 = c.in_ok-make_languages.ensures.makes clean made5.ready in
    (made6.ready, rw (made6.others.0 ∙ made5.others.0 ∙ made4.others.0 ∙ made3.others.0 ∙ made2.others.0 ∙ made1.others.0 ∙ made0.empty, made6.others.1.0 ∙ made5.others.1.0 ∙ made4.others.1.0 ∙ made3.others.1.0 ∙ made2.others.1.0 ∙ made1.empty, made6.others.1.1.0 ∙ made5.others.1.1.0 ∙ made4.others.1.1.0 ∙ made3.others.1.1.0 ∙ made2.empty, made6.others.1.1.1.0 ∙ made5.others.1.1.1.0 ∙ made4.others.1.1.1.0 ∙ made3.empty, made6.others.1.1.1.1.0 ∙ made5.others.1.1.1.1.0 ∙ made4.empty, made6.others.1.1.1.1.1.0 ∙ made5.empty, made6.empty) refl)
