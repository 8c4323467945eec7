use Rattle.std.proofs.Common.{◌∙◌}
use Rattle.acc_tree.specs.Seen.{seen_row, seen}
use Rattle.acc_name.proofs.Unnamed.{unlabelled, no_characters}
use Rattle.acc_name.proofs.following.labelled_by.Goals as goal

pub returns-then-is_empty : goal.returns-then-is_empty
returns-then-is_empty c =
    c.new.ensures
    ∙ unlabelled (seen c.args.tree.now.trees) c.args.node (seen_row c.args.row.now) _ c.text_at-words.ensures (no_characters _ _ c.is_empty.ensures c.if-is_empty.true)
