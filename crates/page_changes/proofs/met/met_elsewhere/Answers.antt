use Rattle.std.proofs.Common.{◌≡◌, [], ◌∷◌, Some, sym, ◌∙◌, ap, subst}
use Rattle.snap_tree.specs.Spots.{spot}
use Rattle.acc_tree.specs.Frames.{frame, under, above_of}
use Rattle.acc_tree.specs.Seen.{seen_row, seen}
use Rattle.acc_tree.specs.Sights.{Sight, seen_sight}
use Rattle.page_keys.specs.Same.{same_frame}
use Rattle.page_keys.specs.Standing.{spot_with, Stand}
use Rattle.page_keys.proofs.Stands.{stand_below}
use Rattle.page_changes.specs.Beside.{AreTwins, IsPair}
use Rattle.page_changes.proofs.Twins.{sight_spot, frame_there, own_there, kids_there}
use Rattle.page_changes.proofs.met.met_elsewhere.Goals as goal

pub returns : goal.returns
returns c =
    λ new ups others here whole is ahead pair.
    let old = seen c.args.old.now.trees in
    let row = seen_row c.args.row.now in
    let kids = seen c.args.kids.now in
    let other = seen_row c.args.sight.row.now in
    let below = seen c.args.sight.below in
    let found = sight_spot new row.id (seen_sight c.args.sight) is in
    let z = found.0 in
    let same_row : z.row ≡ other = ap (λ (s : Sight). s.row) found.1.1 in
    let same_below : z.below ≡ below = ap (λ (s : Sight). s.below) found.1.1 in
    let same_above : c.args.sight.above ≡ above_of z.above = sym (ap (λ (s : Sight). s.above) found.1.1) in
    let there : spot new row.id ≡ Some (spot_with other below z.above) = found.1.0 ∙ (λ i. Some (spot_with (same_row i) (same_below i) z.above)) in
    let twins : AreTwins old new ups z.above row other kids below = record { here = here; there = there } in
    let framed = c.framed_apart-framed.ensures kids ups (above_of others) here pair in
    record {
      frame = framed.same ∙ (λ i. same_frame (frame (above_of ups) row) (frame (same_above i) other)) ∙ frame_there old new ups z.above row other kids below twins;
      own = c.same_owns-own.ensures ∙ own_there old new ups z.above row other kids below twins;
      roots = c.same_roots-kids.ensures ∙ kids_there old new ups z.above row other kids below twins;
      beneath = other ∷ z.above;
      below = subst (λ r. Stand new (r ∷ z.above) below) same_row (subst (Stand new (z.row ∷ z.above)) same_below (stand_below new row.id [] new z whole found.1.0));
      pair = subst (λ a. IsPair c.framed_apart-framed.result.below (above_of (row ∷ ups)) (under a other)) same_above framed.below;
      after = ahead;
    }
