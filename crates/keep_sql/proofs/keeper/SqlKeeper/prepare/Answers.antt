use Rattle.std.proofs.Common.{Some, refl, sym, ap, ◌∙◌}
use Rattle.sqlite.specs.Held.{state}
use Rattle.keep_sql.specs.declared.keeper.Prepared.TheVariants.{Ready, OtherEdition}
use Rattle.keep_sql.specs.Keeper.{Keeper, held, IsToldOf, FoundEdition, StaysStored}
use Rattle.keep_sql.proofs.PrepareLemmas.{told_prepared, found_ours, found_other, stays_other, left_prepared, leaves_ready, leaves_waiting, across_held, found_held, between_held}
use Rattle.keep_sql.proofs.keeper.SqlKeeper.prepare.Goals as goal

pub returns-then-is_taken-clause-told : goal.returns-then-is_taken-clause-told
returns-then-is_taken-clause-told g c ready =
    across_held g.S.Store c.args.self.now c.in-Some.conn (ap (λ (k : Keeper g.row.S.Denot). held k) (sym c.self.view_is) ∙ (sym c.taken.ensures.first ∙ c.in-Some.is)) IsToldOf c.prepare.new.conn
    (told_prepared (state g.S.Store c.in-Some.conn) (state g.S.Store c.in-Ok.conn) (state g.S.Store c.prepare.new.conn) c.in-Ok.ensures.again c.in-Ok.ensures.rows c.prepare.ensures.crash.clean
    c.in-Ok-prepare.number c.in-Ok-prepare.ensures.made (sym c.if-is_taken.ensures))

pub returns-then-is_taken-clause-found : goal.returns-then-is_taken-clause-found
returns-then-is_taken-clause-found g c =
    across_held g.S.Store c.args.self.now c.in-Some.conn (ap (λ (k : Keeper g.row.S.Denot). held k) (sym c.self.view_is) ∙ (sym c.taken.ensures.first ∙ c.in-Some.is)) (FoundEdition Ready) c.prepare.new.conn
    (found_ours (state g.S.Store c.in-Some.conn) (state g.S.Store c.in-Ok.conn) (state g.S.Store c.prepare.new.conn) c.in-Ok.ensures.again c.in-Ok.ensures.rows c.prepare.ensures.crash.clean
    c.in-Ok-prepare.number c.in-Ok-prepare.ensures.made (sym c.if-is_taken.ensures) (λ clean is_open. (c.in-Ok-prepare.ensures.store clean is_open).1))

pub returns-then-is_taken-clause-noted : goal.returns-then-is_taken-clause-noted
returns-then-is_taken-clause-noted g c = (c.in-Ok-prepare.number, sym c.if-is_taken.ensures, λ clean is_open. (c.in-Ok-prepare.ensures.store clean is_open).1)

pub returns-then-is_taken-clause-crash : goal.returns-then-is_taken-clause-crash
returns-then-is_taken-clause-crash g c =
    leaves_ready g.S.Store c.args.self.now c.in-Some.conn (ap (λ (k : Keeper g.row.S.Denot). held k) (sym c.self.view_is) ∙ (sym c.taken.ensures.first ∙ c.in-Some.is))
    (record { ready = Some c.prepare.new.conn; waiting = c.taken.new.waiting; shut = c.self.inside.shut; faults = c.self.inside.faults }) c.prepare.new.conn refl c.taken.ensures.none.1
    (ap (λ (k : Keeper g.row.S.Denot). k.shut) c.self.view_is)
    (left_prepared (state g.S.Store c.in-Some.conn) (state g.S.Store c.in-Ok.conn) (state g.S.Store c.prepare.new.conn) c.in-Ok.ensures.again c.in-Ok.ensures.rows c.prepare.ensures.crash.clean c.prepare.ensures.crash)

pub returns-else-is_taken-clause-stays : goal.returns-else-is_taken-clause-stays
returns-else-is_taken-clause-stays g c other =
    between_held g.S.Store c.args.self.now c.in-Some.conn (ap (λ (k : Keeper g.row.S.Denot). held k) (sym c.self.view_is) ∙ (sym c.taken.ensures.first ∙ c.in-Some.is)) StaysStored c.prepare.new.conn
    (stays_other (state g.S.Store c.in-Some.conn) (state g.S.Store c.in-Ok.conn) (state g.S.Store c.prepare.new.conn) c.in-Ok.ensures.again c.in-Ok.ensures.rows c.prepare.ensures.crash.clean
    c.in-Ok-prepare.number c.in-Ok-prepare.ensures.made (sym c.if-is_taken.ensures))

pub returns-else-is_taken-clause-found : goal.returns-else-is_taken-clause-found
returns-else-is_taken-clause-found g c =
    found_held g.S.Store c.args.self.now c.in-Some.conn (ap (λ (k : Keeper g.row.S.Denot). held k) (sym c.self.view_is) ∙ (sym c.taken.ensures.first ∙ c.in-Some.is)) (FoundEdition (OtherEdition c.in-Ok-prepare.number))
    c.taken.new.ready c.prepare.new.conn c.taken.ensures.none.0
    (found_other (state g.S.Store c.in-Some.conn) (state g.S.Store c.in-Ok.conn) (state g.S.Store c.prepare.new.conn) c.in-Ok.ensures.again c.in-Ok.ensures.rows c.prepare.ensures.crash.clean
    c.in-Ok-prepare.number c.in-Ok-prepare.ensures.made (sym c.if-is_taken.ensures) (λ clean is_open. (c.in-Ok-prepare.ensures.store clean is_open).1))

pub returns-else-is_taken-clause-crash : goal.returns-else-is_taken-clause-crash
returns-else-is_taken-clause-crash g c =
    leaves_waiting g.S.Store c.args.self.now c.in-Some.conn (ap (λ (k : Keeper g.row.S.Denot). held k) (sym c.self.view_is) ∙ (sym c.taken.ensures.first ∙ c.in-Some.is))
    (record { ready = c.taken.new.ready; waiting = Some c.prepare.new.conn; shut = c.self.inside.shut; faults = c.self.inside.faults }) c.prepare.new.conn c.taken.ensures.none.0 refl
    (ap (λ (k : Keeper g.row.S.Denot). k.shut) c.self.view_is)
    (left_prepared (state g.S.Store c.in-Some.conn) (state g.S.Store c.in-Ok.conn) (state g.S.Store c.prepare.new.conn) c.in-Ok.ensures.again c.in-Ok.ensures.rows c.prepare.ensures.crash.clean c.prepare.ensures.crash)

pub returns-in-Err-prepare-clause-crash : goal.returns-in-Err-prepare-clause-crash
returns-in-Err-prepare-clause-crash g c =
    leaves_waiting g.S.Store c.args.self.now c.in-Some.conn (ap (λ (k : Keeper g.row.S.Denot). held k) (sym c.self.view_is) ∙ (sym c.taken.ensures.first ∙ c.in-Some.is))
    (record { ready = c.taken.new.ready; waiting = Some c.prepare.new.conn; shut = c.self.inside.shut; faults = c.fault_of-in-Err-prepare.new.faults }) c.prepare.new.conn c.taken.ensures.none.0 refl
    (ap (λ (k : Keeper g.row.S.Denot). k.shut) c.self.view_is)
    (left_prepared (state g.S.Store c.in-Some.conn) (state g.S.Store c.in-Ok.conn) (state g.S.Store c.prepare.new.conn) c.in-Ok.ensures.again c.in-Ok.ensures.rows c.prepare.ensures.crash.clean c.prepare.ensures.crash)
