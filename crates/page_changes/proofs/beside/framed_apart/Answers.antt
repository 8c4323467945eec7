use Rattle.std.proofs.Common.{subst}
use Rattle.std.specs.Option.{option_copied}
use Rattle.acc_tree.specs.Frames.{above_of}
use Rattle.acc_tree.specs.Seen.{seen_row, seen}
use Rattle.acc_tree.specs.Sights.{summed}
use Rattle.page_keys.specs.Standing.{spot_with}
use Rattle.page_keys.proofs.Agreeing.{spot_sight}
use Rattle.page_changes.specs.Beside.{IsPair, IsFramedBy}
use Rattle.page_changes.proofs.beside.framed_apart.Goals as goal

pub returns-in-Some : goal.returns-in-Some
returns-in-Some c =
    λ kids ups above here pair.
    let parts = subst (λ o. IsPair (option_copied o) (above_of ups) above) c.in-Some.is pair in
    subst (λ a. IsFramedBy a (seen_row c.args.row.now) c.args.other_above.now (seen_row c.args.other.now) c.framed_by.result) parts.0 c.framed_by.ensures

pub returns-in-None : goal.returns-in-None
returns-in-None c =
    λ kids ups above here pair.
    let row = seen_row c.args.row.now in
    let climbed = c.above_at.ensures (summed (spot_with row kids ups)) (spot_sight (seen c.args.old.now.trees) row.id (spot_with row kids ups) here) in
    subst (λ a. IsFramedBy a row c.args.other_above.now (seen_row c.args.other.now) c.framed_by-in-None.result) climbed c.framed_by-in-None.ensures
