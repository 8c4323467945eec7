use Rattle.std.proofs.Common.{◌++◌, ◌∙◌, ap}
use Rattle.acc_tree.specs.Owning.{owned_in, takes_nothing, taken}
use Rattle.acc_tree.specs.Seen.{seen_row, seen}
use Rattle.acc_tree.specs.Sights.{seen_sight}
use Rattle.acc_tree.proofs.Numbered.{follows_none, follows_once}
use Rattle.acc_tree.proofs.owning.owned_by.Goals as goal

pub returns-then-number-eq0 : goal.returns-then-number-eq0
returns-then-number-eq0 c =
    let trees = seen c.args.tree.now.trees in
    let through = c.args.through.now in
    let below = seen c.args.sight.below in
    c.from_vec.ensures ∙ c.in_ok-add_inner.ensures ∙ ap (λ list. list ++ owned_in through 0 takes_nothing c.under-inner.result below) c.new-list.ensures.items
    ∙ ap (λ above. owned_in through 0 takes_nothing above below) c.under-inner.ensures ∙ follows_none through trees c.args.number (seen_sight c.args.sight) c.if-number-eq0.true

pub returns : goal.returns
returns c =
    let trees = seen c.args.tree.now.trees in
    let through = c.args.through.now in
    let below = seen c.args.sight.below in
    let last = taken through trees 1 (seen_row c.args.sight.row.now) in
    c.from_vec-2.ensures ∙ c.in_ok-add_taken.ensures
    ∙ ap (λ list. list ++ last) (c.in_ok-add_owned.ensures ∙ ap (λ list. list ++ owned_in through 1 (taken through trees 1) c.under-inner.result below) c.new-list.ensures.items)
    ∙ ap (λ above. owned_in through 1 (taken through trees 1) above below ++ last) c.under-inner.ensures
    ∙ follows_once through trees c.args.number (seen_sight c.args.sight) c.requires c.if-number-eq0.false
