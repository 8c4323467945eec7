use Rattle.std.proofs.Common.{sym, ◌∙◌}
use Rattle.acc_tree.specs.Seen.{seen_row, seen}
use Rattle.acc_name.proofs.Unnamed.{with_owned, without_owned}
use Rattle.acc_name.proofs.following.told_of.Goals as goal
use Rattle.acc_name.proofs.following.told_of.Goals.{then-has+in_ok-left+in_ok-told-2, else-has}

pub returns-clause-tells : goal.returns-clause-tells
returns-clause-tells c =
    let trees = seen c.args.tree.now.trees in
    let row = seen_row c.args.row.now in
    elim c.if-has.branch [
      | then-has+in_ok-left+in_ok-told-2 w ↦ w.told-is ∙ with_owned trees c.args.scope.node c.args.scope.hidden row c.in_ok-told.told w.in_ok-told-2.field-0 c.in_ok-told.ensures w.in_ok-told-2.ensures
      | else-has w ↦ w.told-is ∙ without_owned trees c.args.scope.node c.args.scope.hidden row c.in_ok-told.told c.in_ok-told.ensures (sym c.has.ensures ∙ w.if-has.false)
    ]
