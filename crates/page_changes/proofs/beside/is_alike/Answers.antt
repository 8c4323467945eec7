use Rattle.std.proofs.Common.{sym, ◌∙◌, subst}
use Rattle.std.proofs.lemmas.Bool.{false≢true}
use Rattle.std.specs.Cmp.{first_so, second_so}
use Rattle.std.specs.Option.{option_copied}
use Rattle.acc_tree.specs.Frames.{above_of}
use Rattle.acc_tree.specs.Seen.{seen_row}
use Rattle.page_changes.specs.Beside.{IsPair}
use Rattle.page_changes.proofs.Twins.{twins_alike}
use Rattle.page_changes.proofs.beside.is_alike.Goals as goal

pub returns-in-Some : goal.returns-in-Some
returns-in-Some c = λ old new ups others kids below twins own pair yes. absurd (false≢true yes)

pub returns-in-None : goal.returns-in-None
returns-in-None c =
    λ old new ups others kids below twins own pair yes.
    let above = subst (λ o. IsPair (option_copied o) (above_of ups) (above_of others)) c.in-None.is pair in
    twins_alike old new ups others (seen_row c.args.row.now) (seen_row c.args.other.now) kids below twins
    (sym own ∙ first_so c.args.own c.same_shape.result yes) (sym c.same_shape.ensures ∙ second_so c.args.own c.same_shape.result yes) above
