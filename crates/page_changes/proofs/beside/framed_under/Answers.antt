use Rattle.std.proofs.Common.{◌≡◌, ◌∷◌, ◌∙◌, subst}
use Rattle.std.specs.Option.{option_copied}
use Rattle.acc_tree.specs.Frames.{frame, under, above_of}
use Rattle.acc_tree.specs.Seen.{seen_row, seen}
use Rattle.acc_tree.specs.Sights.{summed}
use Rattle.page_keys.specs.Same.{same_frame}
use Rattle.page_keys.specs.Standing.{spot_with}
use Rattle.page_keys.proofs.Agreeing.{spot_sight}
use Rattle.page_changes.specs.Beside.{IsPair}
use Rattle.page_changes.proofs.Twins.{frame_there}
use Rattle.page_changes.proofs.beside.framed_under.Goals as goal

pub returns-in-Some : goal.returns-in-Some
returns-in-Some c =
    λ new ups others kids below twins pair.
    let old = seen c.args.old.now.trees in
    let row = seen_row c.args.row.now in
    let other = seen_row c.args.other.now in
    let parts = subst (λ o. IsPair (option_copied o) (above_of ups) (above_of others)) c.in-Some.is pair in
    record {
      same = c.framed_by.ensures.same ∙ (λ i. same_frame (frame (parts.0 i) row) (frame (parts.1 i) other)) ∙ frame_there old new ups others row other kids below twins;
      below = subst (λ a. IsPair c.framed_by.result.below (above_of (row ∷ ups)) (under a other)) parts.1 (subst (λ a. IsPair c.framed_by.result.below (under a row) (under c.in-Some.pair.now.other other)) parts.0 c.framed_by.ensures.below);
    }

pub returns-in-None : goal.returns-in-None
returns-in-None c =
    λ new ups others kids below twins pair.
    let old = seen c.args.old.now.trees in
    let row = seen_row c.args.row.now in
    let other = seen_row c.args.other.now in
    let above : c.above_at-above.result ≡ above_of ups = c.above_at-above.ensures (summed (spot_with row kids ups)) (spot_sight old row.id (spot_with row kids ups) twins.here) in
    let above_other = above ∙ subst (λ o. IsPair (option_copied o) (above_of ups) (above_of others)) c.in-None.is pair in
    record {
      same = c.framed_by-in-None.ensures.same ∙ (λ i. same_frame (frame (above i) row) (frame (above_other i) other)) ∙ frame_there old new ups others row other kids below twins;
      below = subst (λ a. IsPair c.framed_by-in-None.result.below (above_of (row ∷ ups)) (under a other)) above_other
          (subst (λ a. IsPair c.framed_by-in-None.result.below (under a row) (under c.above_at-above.result other)) above c.framed_by-in-None.ensures.below);
    }
