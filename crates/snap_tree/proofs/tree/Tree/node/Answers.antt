use Rattle.std.proofs.Common.{[], sym, ◌∙◌, ap}
use Rattle.std.specs.List.{find}
use Rattle.snap_tree.specs.Rows.{has_number}
use Rattle.snap_tree.specs.Trees.{rows_of}
use Rattle.snap_tree.proofs.Growth.{rows_of_grown}
use Rattle.snap_tree.proofs.Spotting.{spot_row}
use Rattle.snap_tree.proofs.Climbing.{absent_row, copied_none}
use Rattle.snap_tree.proofs.tree.Tree.node.Goals as goal

pub returns : goal.returns
returns c =
    let t = c.args.self.now.trees in
    let found = c.row_of.ensures ∙ ap (find (has_number c.args.n)) (c.as_slice.ensures.value ∙ sym (rows_of_grown c.page-page.result.now.rows.items)) in
    let is = found ∙ ap (λ d. find (has_number c.args.n) (rows_of d.trees)) c.page-page.ensures in
    record {
      row = is;
      spot = is ∙ sym (spot_row c.args.n [] t);
      absent = λ absent. copied_none c.row_of.result (is ∙ absent_row t c.args.n absent);
    }
