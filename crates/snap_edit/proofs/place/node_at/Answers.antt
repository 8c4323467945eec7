use Rattle.std.proofs.Common.{sym, ◌∙◌}
use Rattle.snap_edit.proofs.Standing.{node_found, at_stranger}
use Rattle.snap_edit.proofs.place.node_at.Goals as goal

pub returns-in-Some-clause-place : goal.returns-in-Some-clause-place
returns-in-Some-clause-place c =
    node_found c.args.rows.now c.args.node c.in-Some.place (sym c.place_of.ensures ∙ c.in-Some.is)

pub returns-in-None-clause-refused : goal.returns-in-None-clause-refused
returns-in-None-clause-refused c =
    λ next. at_stranger c.args.rows.now c.args.node next (sym c.place_of.ensures ∙ c.in-None.is)
