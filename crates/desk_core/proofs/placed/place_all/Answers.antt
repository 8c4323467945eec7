use Rattle.desk_core.proofs.ImportLaws.{place_more}
use Rattle.desk_core.proofs.placed.place_all.Goals as goal

pub loop-entry-preserved : goal.loop-entry-preserved
loop-entry-preserved g c =
    place_more c.args.site.now c.args.heads.now c.loop-entry.yielded c.in-Some.entry _ _ _ c.loop-entry.all.items c.push.new.self.items c.in_ok-place.field-0
    c.loop-entry.invariant c.in_ok-place.ensures c.in_ok-push.ensures.items
