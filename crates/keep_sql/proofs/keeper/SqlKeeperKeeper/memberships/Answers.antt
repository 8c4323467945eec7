use Rattle.std.proofs.Common.{sym, ap, ◌∙◌}
use Rattle.sqlite.specs.Held.{state}
use Rattle.keep_core.specs.Tables.{memberships_of}
use Rattle.store_tables.proofs.Memberships.{memberships_told}
use Rattle.keep_sql.specs.Reading.{rows_in, memberships_in}
use Rattle.keep_sql.specs.Keeper.{Keeper, LeavesAll}
use Rattle.keep_sql.proofs.KeepLemmas.{reads_of, fails_of, across_of}
use Rattle.keep_sql.proofs.keeper.SqlKeeperKeeper.memberships.Goals as goal

pub returns-in-Ok-clause-reads : goal.returns-in-Ok-clause-reads
returns-in-Ok-clause-reads g c =
    reads_of g.S.Store c.self.inside.ready c.args.self.now.ready c.in-Some.conn c.read_memberships.new.conn c.in-Some.is (ap (λ (k : Keeper g.row.S.Denot). k.ready) (sym c.self.view_is) ∙ c.in-Some.is)
    c.read_memberships.ensures.only.survives.clean c.self.invariant.well.ready_is (memberships_of c.args.user.now) (memberships_in c.args.user.now) c.in-Ok.memberships c.in-Ok.ensures.only.leaves c.in-Ok.ensures.reads
    (λ t is. memberships_told (rows_in (state g.S.Store c.in-Some.conn)) t is c.args.user.now)

pub returns-in-Err-clause-reads : goal.returns-in-Err-clause-reads
returns-in-Err-clause-reads g c =
    fails_of g.S.Store c.self.inside.ready c.args.self.now.ready c.in-Some.conn c.read_memberships.new.conn c.in-Some.is (ap (λ (k : Keeper g.row.S.Denot). k.ready) (sym c.self.view_is) ∙ c.in-Some.is)
    c.read_memberships.ensures.only.survives.clean c.self.invariant.well.ready_is (memberships_of c.args.user.now) c.fault_of.result c.in-Err.ensures.only.leaves

pub returns-in-Ok-clause-crash : goal.returns-in-Ok-clause-crash
returns-in-Ok-clause-crash g c = across_of g.S.Store LeavesAll c.args.self.now.ready c.in-Some.conn c.read_memberships.new.conn (ap (λ (k : Keeper g.row.S.Denot). k.ready) (sym c.self.view_is) ∙ c.in-Some.is) c.read_memberships.ensures.only.survives

pub returns-in-Err-clause-crash : goal.returns-in-Err-clause-crash
returns-in-Err-clause-crash g c = across_of g.S.Store LeavesAll c.args.self.now.ready c.in-Some.conn c.read_memberships.new.conn (ap (λ (k : Keeper g.row.S.Denot). k.ready) (sym c.self.view_is) ∙ c.in-Some.is) c.read_memberships.ensures.only.survives
