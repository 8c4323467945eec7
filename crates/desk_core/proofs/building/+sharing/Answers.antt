use Rattle.std.proofs.Common.{◌++◌, ap, ◌∙◌, subst, take}
use Rattle.std.proofs.lemmas.List.{take-append-drop}
use Rattle.desk_core.specs.Building.{Builds}
use Rattle.desk_core.proofs.building.+sharing.Goals as goal

pub returns : goal.returns
returns g t c =
    let whole = c.args.placed.items in
    let others = c.in_ok-others.others.items in
    let at = c.share.result in
    let parts = ap (λ ones. ones ++ others) c.in_ok-others.ensures.items ∙ (ap (λ rest. take at whole ++ rest) c.in_ok-others.ensures.tail ∙ take-append-drop at whole) in
    subst (λ all. Builds all c.joined.result) parts (c.joined.ensures _ _ c.join-first.ensures.first c.join-first.ensures.second)
