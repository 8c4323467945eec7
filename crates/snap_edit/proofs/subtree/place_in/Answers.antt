use Rattle.std.proofs.Common.{sym, ◌∙◌}
use Rattle.snap_edit.proofs.Standing.{run_at}
use Rattle.snap_edit.proofs.Settling.{passed_on}
use Rattle.snap_edit.proofs.Placing.{child_out, child_in}
use Rattle.snap_edit.proofs.subtree.place_in.Goals as goal

pub returns-in_err-above-clause-refused : goal.returns-in_err-above-clause-refused
returns-in_err-above-clause-refused c =
    passed_on _ _ _ c.from_residual.ensures.1 (λ next. c.in_err-above.ensures.refused _)

pub place_below-requires : goal.place_below-requires
place_below-requires c = run_at c.in_ok-above.ensures.place.node

pub returns-in-Some-clause-place : goal.returns-in-Some-clause-place
returns-in-Some-clause-place c =
    child_in c.args.count c.requires c.in_ok-above.ensures.place (sym c.in-Some.is ∙ c.in_ok-place.ensures)

pub returns-in-None-clause-refused : goal.returns-in-None-clause-refused
returns-in-None-clause-refused c =
    λ next. child_out c.args.count next c.requires c.in_ok-above.ensures.place (sym c.in-None.is ∙ c.in_ok-place.ensures)
