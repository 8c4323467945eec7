use Rattle.std.proofs.Common.{arith}
use Rattle.made_pages.proofs.Sizes.{room, at_first, one_more}
use Rattle.made_pages.proofs.page.rows.Goals as goal

pub push_part-requires : goal.push_part-requires
push_part-requires c =
    room c.args.number c.args.page c.loop-part.part c.loop-part.rows.items c.loop-part.invariant (omega (arith, c.loop-part-test.true, c.requires))

pub loop-part-init : goal.loop-part-init
loop-part-init c = at_first c.args.number c.args.page _ c.in_ok-rows.ensures

pub loop-part-preserved : goal.loop-part-preserved
loop-part-preserved c =
    one_more c.args.number c.args.page c.loop-part.part c.loop-part.rows.items c.push_part.new.rows.items c.loop-part.invariant c.in_ok-push_part.ensures
