use Rattle.std.proofs.Common.{arith, ◌≡◌, refl, sym, ◌∙◌}
use Rattle.sqlite.specs.Held.{state}
use Rattle.sqlite.specs.State.{HasCleanDisk}
use Rattle.store_statements.specs.Schema.{old_schema, the_schema}
use Rattle.keep_sql.proofs.PrepareLemmas.{store_of, older_of, left_of_older, left_of_all, older_store, older_made, all_store, all_made}
use Rattle.keep_sql.proofs.preparing.prepare.Goals as goal

pub returns-then-is_older-clause-store : goal.returns-then-is_older-clause-store
returns-then-is_older-clause-store g c clean is_open =
    let s0 = state g.S.Store c.args.conn.now in
    let s1 = state g.S.Store c.renew.new.conn in
    let clean0 : HasCleanDisk s0 = omega (arith, clean, c.renew.ensures.crash.clean) in
    let older : s0.now.schema ≡ old_schema = sym c.schema-2.ensures.value ∙ c.if-is_older.ensures refl in
    older_store s0 s1 c.renew.result (c.renew.ensures.renews clean is_open (older_of s0 (c.requires.sound clean0) older))

pub returns-then-is_older-clause-made : goal.returns-then-is_older-clause-made
returns-then-is_older-clause-made g c clean is_open =
    let s0 = state g.S.Store c.args.conn.now in
    let s1 = state g.S.Store c.renew.new.conn in
    let clean0 : HasCleanDisk s0 = omega (arith, clean, c.renew.ensures.crash.clean) in
    let older : s0.now.schema ≡ old_schema = sym c.schema-2.ensures.value ∙ c.if-is_older.ensures refl in
    let its = older_of s0 (c.requires.sound clean0) older in
    older_made s0 s1 c.renew.result its (c.renew.ensures.renews clean is_open its)

pub returns-then-is_older-clause-crash : goal.returns-then-is_older-clause-crash
returns-then-is_older-clause-crash g c =
    let s0 = state g.S.Store c.args.conn.now in
    let older : s0.now.schema ≡ old_schema = sym c.schema-2.ensures.value ∙ c.if-is_older.ensures refl in
    left_of_older s0 (state g.S.Store c.renew.new.conn) c.requires.sound older c.renew.ensures.crash

pub returns-clause-store : goal.returns-clause-store
returns-clause-store g c clean is_open =
    let s0 = state g.S.Store c.args.conn.now in
    let s1 = state g.S.Store c.note.new.conn in
    let clean0 : HasCleanDisk s0 = omega (arith, clean, c.note.ensures.crash.clean) in
    let ours : s0.now.schema ≡ the_schema = sym c.schema-3.ensures.value ∙ c.if-not-is_ours.ensures refl in
    all_store s0 s1 c.note.result (c.note.ensures.notes clean is_open (store_of s0 (c.requires.sound clean0) ours))

pub returns-clause-made : goal.returns-clause-made
returns-clause-made g c clean is_open =
    let s0 = state g.S.Store c.args.conn.now in
    let s1 = state g.S.Store c.note.new.conn in
    let clean0 : HasCleanDisk s0 = omega (arith, clean, c.note.ensures.crash.clean) in
    let ours : s0.now.schema ≡ the_schema = sym c.schema-3.ensures.value ∙ c.if-not-is_ours.ensures refl in
    let mine = store_of s0 (c.requires.sound clean0) ours in
    all_made s0 s1 c.note.result mine (c.note.ensures.notes clean is_open mine)

pub returns-clause-crash : goal.returns-clause-crash
returns-clause-crash g c =
    let s0 = state g.S.Store c.args.conn.now in
    let ours : s0.now.schema ≡ the_schema = sym c.schema-3.ensures.value ∙ c.if-not-is_ours.ensures refl in
    left_of_all s0 (state g.S.Store c.note.new.conn) c.requires.sound ours c.note.ensures.crash
