use Rattle.store_tables.specs.Members.{membership_from}
use Rattle.store_tables.proofs.Each.{each_stepped}
use Rattle.store_tables.proofs.members.read_memberships.Goals as goal

pub loop-row-preserved : goal.loop-row-preserved
loop-row-preserved c =
    each_stepped membership_from c.args.rows.now c.loop-row.row-index c.row-item.result c.loop-row.memberships.items c.push.new.self.items c.in_ok-membership.field-0
    c.loop-row-test.true c.row-item.is c.loop-row.invariant c.in_ok-membership.ensures c.in_ok-push.ensures.items
