use Rattle.std.proofs.Common.{◌++◌, [], true, Some, None, refl, ◌∙◌, sym, ap, subst}
use Rattle.acc_tree.specs.Frames.{nothing_above}
use Rattle.acc_tree.specs.Seen.{seen}
use Rattle.page_keys.proofs.Pages.{page_seen}
use Rattle.page_keys.proofs.Stands.{all_stand}
use Rattle.page_keys.specs.Standing.{Stand}
use Rattle.page_changes.specs.Beside.{AreBeside, ahead_of}
use Rattle.page_changes.specs.Here.{marks_here, tree_here}
use Rattle.page_changes.proofs.Passing.{marks_are, tree_is}
use Rattle.page_changes.proofs.marks.compare.Goals as goal

pub returns : goal.returns
returns c =
    let old = seen c.args.old.now.trees in
    let new = seen c.args.new.now.trees in
    let stand = all_stand old (page_seen c.args.old.now.trees c.well.ensures).apart in
    let whole = all_stand new (page_seen c.args.new.now.trees c.well-2.ensures).apart in
    let before = sym (ap seen c.branches.ensures) in
    let beside : AreBeside old new None [] [] (seen c.branches.result) (ahead_of (Some c.branches-2.result)) =
    record { whole = whole; here = subst (Stand old []) before stand; there = subst (Stand new []) (sym (ap seen c.branches-2.ensures)) whole; above = refl } in
    record {
      each = c.in_ok-all.ensures.list [] [] beside refl ∙ (λ i. c.in_ok-each.ensures.items i ++ marks_here new nothing_above true (seen (c.branches.ensures i))) ∙ marks_are old new [] true old stand refl;
      all = c.in_ok-all.ensures.all [] [] beside refl ∙ ap (λ t. tree_here new nothing_above (seen t)) c.branches.ensures ∙ tree_is old new [] old stand;
    }
