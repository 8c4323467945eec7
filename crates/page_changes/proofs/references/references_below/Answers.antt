use Rattle.std.proofs.Common.{◌++◌, [], None, refl, ◌∙◌}
use Rattle.acc_tree.specs.Seen.{seen}
use Rattle.page_keys.proofs.Pages.{page_seen}
use Rattle.page_keys.proofs.Stands.{all_stand}
use Rattle.page_changes.specs.References.{below_same}
use Rattle.page_changes.proofs.Referring.{below_are}
use Rattle.page_changes.proofs.references.references_below.Goals as goal

pub returns : goal.returns
returns c =
    let pages = c.args.pages.now in
    let old = seen pages.old.now.trees in
    let new = seen pages.new.now.trees in
    let stand = all_stand old (page_seen pages.old.now.trees c.well.ensures).apart in
    c.in_ok-add_below.ensures.list ∙ (λ i. c.new-list.ensures.items i ++ below_same old new None (seen (c.branches.ensures i))) ∙ below_are old new [] None old stand refl
