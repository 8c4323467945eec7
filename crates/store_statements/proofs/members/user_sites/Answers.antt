use Rattle.std.proofs.lemmas.Result.{IfOk-weaker}
use Rattle.sqlite.specs.Held.{state}
use Rattle.sql_rows.proofs.Kept.{queried_steps}
use Rattle.store_statements.proofs.MemberTexts.{shows_user_sites}
use Rattle.store_statements.proofs.members.user_sites.Goals as goal

pub returns-clause-shown : goal.returns-clause-shown
returns-clause-shown g c clean ready =
    IfOk-weaker c.query_all.result _ _
    (λ rows shown. shows_user_sites (state g.S.Store c.args.tx.now.conn.now) (state g.S.Store c.query_all.new.self.conn.now) ready c.args.user.now rows.items (rw c.params-to_sql.ensures at shown)) (c.query_all.ensures.ok clean)

pub returns-clause-steps : goal.returns-clause-steps
returns-clause-steps g c =
    queried_steps g.S.Store _ _ c.args.tx.now.conn c.query_all.new.self.conn (λ rows. rows.items) c.query_all.result c.query_all.ensures.same_reference c.query_all.ensures.survives c.query_all.ensures.ok c.query_all.ensures.err
