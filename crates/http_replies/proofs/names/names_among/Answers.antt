use Rattle.std.proofs.Common.{arith}
use Rattle.snap_tree.specs.declared.row.Row.{Row}
use Rattle.snap_tree.specs.Trees.{Trees}
use Rattle.http_replies.specs.NameList.{is_listed, name_data}
use Rattle.http_replies.proofs.Picked.{all_picked}
use Rattle.http_replies.proofs.names.names_among.Goals as goal

pub returns : goal.returns
returns c =
    let trees : Trees = c.args.tree.now.trees in
    all_picked (λ (row : Row). name_data trees row.id) (λ row. is_listed trees row.id) c.args.rows.now c.loop-row.row-index _ (omega arith) (omega arith) c.loop-row.invariant
