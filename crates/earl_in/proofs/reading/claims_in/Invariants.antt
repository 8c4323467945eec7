use Rattle.std.proofs.Common.{◌≡◌, ◌++◌, drop}
use Rattle.serde_json.specs.View.{items_view}
use Rattle.earl_in.specs.Reading.{claims_in}
use Rattle.earl_in.proofs.reading.claims_in.Given as goal

abbrev pub invariant-loop-entry : goal.invariant-loop-entry
invariant-loop-entry l = l.claims.items ++ claims_in l.infos (items_view (drop l.entry-index l.entries)) ≡ claims_in l.infos (items_view l.entries)
