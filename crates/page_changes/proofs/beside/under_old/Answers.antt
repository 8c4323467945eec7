use Rattle.std.proofs.Common.{◌∙◌, ap, subst}
use Rattle.std.specs.Option.{option_copied}
use Rattle.acc_tree.specs.Frames.{under, above_of}
use Rattle.acc_tree.specs.Seen.{seen_row, seen}
use Rattle.acc_tree.specs.Sights.{summed}
use Rattle.page_keys.specs.Standing.{spot_with}
use Rattle.page_keys.proofs.Agreeing.{spot_sight}
use Rattle.page_changes.specs.Beside.{IsPair}
use Rattle.page_changes.proofs.beside.under_old.Goals as goal

pub returns-in-Some : goal.returns-in-Some
returns-in-Some c =
    λ kids ups other here pair.
    let parts = subst (λ o. IsPair (option_copied o) (above_of ups) other) c.in-Some.is pair in
    c.under.ensures ∙ ap (λ a. under a (seen_row c.args.row.now)) parts.0

pub returns-in-None : goal.returns-in-None
returns-in-None c =
    λ kids ups other here pair.
    let row = seen_row c.args.row.now in
    c.under-in-None.ensures ∙ ap (λ a. under a row) (c.above_at.ensures (summed (spot_with row kids ups)) (spot_sight (seen c.args.old.now.trees) row.id (spot_with row kids ups) here))
