use Rattle.std.proofs.Common.{◌≡◌, ◌∷◌, Some, sym, ◌∙◌, ap}
use Rattle.snap_tree.specs.Spots.{spot}
use Rattle.acc_tree.specs.Seen.{seen_row, seen}
use Rattle.page_keys.specs.Standing.{spot_with}
use Rattle.page_changes.specs.Beside.{AreTwins}
use Rattle.page_changes.proofs.Twins.{own_there, kids_there}
use Rattle.page_changes.proofs.met.met_ahead.Goals as goal

pub returns-then-is_alike : goal.returns-then-is_alike
returns-then-is_alike c =
    λ new ups others here number stand pair.
    let old = seen c.args.old.now.trees in
    let row = seen_row c.args.row.now in
    let kids = seen c.args.kids.now in
    let other = seen_row c.args.branch.row.now in
    let below = seen c.args.branch.kids in
    let there : spot new row.id ≡ Some (spot_with other below others) = ap (spot new) (sym number) ∙ stand.0 in
    let twins : AreTwins old new ups others row other kids below = record { here = here; there = there } in
    let own = c.same_owns-own.ensures ∙ own_there old new ups others row other kids below twins in
    let alike = c.is_alike.ensures old new ups others kids below twins own pair c.if-is_alike.true in
    record {
      frame = alike.0;
      own = own;
      roots = c.same_roots-kids.ensures ∙ kids_there old new ups others row other kids below twins;
      beneath = other ∷ others;
      below = stand.1.0;
      pair = alike.1;
      after = stand.1.1;
    }

pub returns-else-is_alike : goal.returns-else-is_alike
returns-else-is_alike c =
    λ new ups others here number stand pair.
    let old = seen c.args.old.now.trees in
    let row = seen_row c.args.row.now in
    let kids = seen c.args.kids.now in
    let other = seen_row c.args.branch.row.now in
    let below = seen c.args.branch.kids in
    let there : spot new row.id ≡ Some (spot_with other below others) = ap (spot new) (sym number) ∙ stand.0 in
    let twins : AreTwins old new ups others row other kids below = record { here = here; there = there } in
    let own = c.same_owns-own.ensures ∙ own_there old new ups others row other kids below twins in
    let framed = c.framed_under-framed.ensures new ups others kids below twins pair in
    record {
      frame = framed.same;
      own = own;
      roots = c.same_roots-kids.ensures ∙ kids_there old new ups others row other kids below twins;
      beneath = other ∷ others;
      below = stand.1.0;
      pair = framed.below;
      after = stand.1.1;
    }
