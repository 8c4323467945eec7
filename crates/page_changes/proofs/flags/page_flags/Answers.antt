use Rattle.std.proofs.Common.{◌∙◌}
use Rattle.snap_tree.specs.Trees.{rows_of}
use Rattle.acc_tree.specs.Seen.{seen}
use Rattle.page_changes.specs.Flags.{joined}
use Rattle.page_changes.proofs.Joining.{joined_are}
use Rattle.page_changes.proofs.flags.page_flags.Goals as goal

pub returns : goal.returns
returns c =
    let old = seen c.args.pages.now.old.now.trees in
    let new = seen c.args.pages.now.new.now.trees in
    c.in_ok-flags.ensures
    ∙ (λ i. joined old new c.in_ok-common.common ((c.as_slice.ensures.value ∙ c.requires.marks.each) i) ((c.as_slice-2.ensures.value ∙ c.in_ok-references.ensures) i))
    ∙ joined_are old new c.in_ok-common.common c.in_ok-common.ensures (rows_of old)
