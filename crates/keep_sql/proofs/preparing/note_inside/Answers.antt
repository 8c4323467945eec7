use Rattle.std.proofs.Common.{arith, Some, pos, subst, ap, ◌∙◌}
use Rattle.sqlite.specs.Effect.{Database}
use Rattle.sqlite.specs.Held.{state}
use Rattle.sqlite.specs.State.{HasCleanDisk}
use Rattle.store_statements.specs.Stored.{stored}
use Rattle.store_statements.specs.Changes.{AddsEdition}
use Rattle.keep_sql.specs.Reading.{rows_in}
use Rattle.keep_sql.proofs.Ready.{ready_same}
use Rattle.keep_sql.proofs.preparing.note_inside.Goals as goal

pub returns-clause-notes : goal.returns-clause-notes
returns-clause-notes g c clean ready =
    let s0 = state g.S.Store c.args.tx.now.conn.now in
    let s1 = state g.S.Store c.noted_inside.new.tx.conn.now in
    let s2 = state g.S.Store c.add_edition.new.tx.conn.now in
    let clean1 : HasCleanDisk s1 = omega (arith, clean, c.add_edition.ensures.steps.survives.clean) in
    let same = c.in_ok-number.ensures.same clean1 ready in
    let made = c.in_ok-add_edition.ensures.makes clean (ready_same s0 s1 ready same) in
    (made.ready, c.in_ok-number.ensures.reads clean1 ready ∙ ap Some c.in_default.is, subst (λ (d : Database). AddsEdition (pos 0) (stored d.trees) (rows_in s2)) same.0.now_is made.change)
