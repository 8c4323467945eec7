use Rattle.std.proofs.Common.{◌∙◌, ap}
use Rattle.snap_tree.specs.Trees.{rows_of}
use Rattle.acc_tree.specs.Seen.{seen}
use Rattle.page_changes.specs.ByNumber.{first_agreed}
use Rattle.page_changes.proofs.Strangers.{marks_find}
use Rattle.page_changes.proofs.flags.marks_by_number.Goals as goal

pub returns : goal.returns
returns c = λ n.
    c.in_ok-by_number.ensures n.0 ∙ ap (first_agreed n.0) (c.as_slice.ensures.value ∙ c.requires.each) ∙ marks_find (seen c.args.old.now.trees) (seen c.args.new.now.trees) n (rows_of (seen c.args.old.now.trees))
