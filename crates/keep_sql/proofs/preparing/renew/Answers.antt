use Rattle.std.proofs.Common.{◌≡◌, not, IsTrue, sym, ap, subst, ◌∙◌, arith, rules}
use Rattle.sqlite_trees.specs.Tree.{Trees}
use Rattle.sqlite.specs.Held.{Held, state}
use Rattle.sqlite.specs.State.{HasCleanDisk, Survives}
use Rattle.sqlite.proofs.StateLemmas.{survives_then}
use Rattle.sqlite.proofs.Callers.{survives_begin}
use Rattle.keep_sql.specs.Preparing.{IsOlder, RenewsOurs, Renews}
use Rattle.keep_sql.proofs.Renewing.{older_ready, renewed_from, renews_untaken, renewed_left}
use Rattle.keep_sql.proofs.preparing.renew.Goals as goal

pub returns-then-not-is_taken-clause-renews : goal.returns-then-not-is_taken-clause-renews
returns-then-not-is_taken-clause-renews g c =
    let old = c.args.conn.now in
    let started = c.transaction-tx.result.conn.now in
    let last = c.renew_inside.new.tx.conn.now in
    let end = c.drop-tx-then-not-is_taken.new.self.0 in
    let begun = c.transaction-tx.ensures.begun in
    let same : end ≡ c.conn-then-not-is_taken-1.given.0 = search rules in
    subst (λ h. HasCleanDisk (state g.S.Store h) → IsTrue (state g.S.Store h).is_open → IsOlder (state g.S.Store old) → Renews (state g.S.Store old) (state g.S.Store h) c.in_ok-number.number) same
    (λ clean is_open older.
    let tables = older_ready g.S.Store old started begun older in
    let back = c.drop-tx-then-not-is_taken.ensures.undone clean in
    let clean_last : HasCleanDisk (state g.S.Store last) = omega (arith, clean, c.drop-tx-then-not-is_taken.ensures.survives.clean) in
    let open_last = back.was_open is_open in
    let kept = (c.in_ok-number.ensures.steps.kept clean_last tables.inside).0 in
    let was_open : IsTrue (state g.S.Store old).is_open = sym (ap (λ (h : Held _). (state g.S.Store h).is_open) begun) ∙ kept.was_open open_last in
    let settled = c.is_autocommit-idle.ensures.settled (c.is_autocommit-idle.ensures.value ∙ ap not c.requires.idle) was_open in
    let rows : (state g.S.Store end).now ≡ (state g.S.Store old).now =
    (back.undone is_open).0 ∙ kept.committed open_last ∙ ap (λ (h : Held _). (state g.S.Store h).committed) begun ∙ sym settled in
    let made = renewed_from g.S.Store old started (state g.S.Store last) c.in_ok-number.number begun (c.in_ok-number.ensures.makes clean_last tables) in
    renews_untaken (state g.S.Store old) (state g.S.Store last) (state g.S.Store end) c.in_ok-number.number made (sym c.if-not-is_taken.ensures) rows)

pub returns-clause-crash : goal.returns-clause-crash
returns-clause-crash g c =
    let old = c.args.conn.now in
    let started = c.transaction-tx.result.conn.now in
    let last = c.renew_inside.new.tx.conn.now in
    let end = c.commit.new.self.0 in
    let begun = c.transaction-tx.ensures.begun in
    let inside = c.in_ok-number.ensures.steps.survives in
    let P = λ (db : Trees). IsOlder (state g.S.Store old) → RenewsOurs (state g.S.Store old) db in
    let whole = survives_then (state g.S.Store old) (state g.S.Store last) (state g.S.Store end) _ _ P (λ _ db none. absurd none)
    (λ clean db is older.
    let clean_last : HasCleanDisk (state g.S.Store last) = omega (arith, clean, c.commit.ensures.survives.clean) in
    let made = renewed_from g.S.Store old started (state g.S.Store last) c.in_ok-number.number begun (c.in_ok-number.ensures.makes clean_last (older_ready g.S.Store old started begun older)) in
    renewed_left (state g.S.Store old) (state g.S.Store last) c.in_ok-number.number db made is)
    (survives_begin g.S.Store old (state g.S.Store last) _ (rw begun at inside)) c.commit.ensures.survives in
    let same : end ≡ c.conn-2-1.given.0 = search rules in
    subst (λ h. Survives (state g.S.Store old) (state g.S.Store h) P) same whole
