use Rattle.std.proofs.Common.{◌≡◌, map, take}
use Rattle.desk_core.specs.Pages.{stored_by}
use Rattle.desk_core.proofs.store.stored_each.Given as goal

abbrev pub invariant-loop-put : goal.invariant-loop-put
invariant-loop-put l = l.told.items ≡ map (stored_by l.infos) (take l.put-index l.pages)
