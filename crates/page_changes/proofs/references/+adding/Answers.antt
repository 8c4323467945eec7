use Rattle.std.proofs.Common.{◌≡◌, ◌&&◌, Bool, true, false, ◌++◌, ◌∷◌, ◌∙◌, refl, sym, ap, append-nil, arith}
use Rattle.snap_tree.specs.Trees.{empty, tree, count}
use Rattle.acc_tree.specs.Seen.{seen_row, seen}
use Rattle.page_changes.specs.References.{row_same, label_under, rows_same, below_same}
use Rattle.page_changes.proofs.Stepping.{leaf, filled}
use Rattle.page_changes.proofs.references.+adding.Goals as goal

regroup : (a b c d : Bool) → ((a && (b && c)) && d) ≡ (a && (b && (c && d)))
regroup false b c d = refl
regroup true false c d = refl
regroup true true c d = refl

pub add_below-loop-branch-preserved : goal.add_below-loop-branch-preserved
add_below-loop-branch-preserved t c =
    let old = seen c.args.pages.now.old.now.trees in
    let new = seen c.args.pages.now.new.now.trees in
    let label = c.args.label in
    let row = seen_row c.in-Some.branch.row.now in
    let kids = seen c.in-Some.branch.kids in
    let after = seen c.in-Some.branch.after in
    let rest : seen c.loop-branch.rest ≡ tree row kids after = ap seen c.in-Some.ensures in
    let h : c.in_ok-here.here ≡ row_same old new label row = c.in_ok-here.ensures.same in
    let u : c.label_under.result ≡ label_under label row = c.label_under.ensures in
    let added : c.add_kids.new.list.items ≡ c.push.new.self.items ++ below_same old new (label_under label row) kids =
    c.in_ok-inner.ensures.list ∙ (λ i. c.push.new.self.items ++ below_same old new (u i) kids) in
    let all : c.in_ok-inner.inner ≡ rows_same old new (label_under label row) kids = c.in_ok-inner.ensures.all ∙ ap (λ l. rows_same old new l kids) u in
    let last : (c.in_ok-here.here && c.in_ok-inner.inner) ≡ (row_same old new label row && rows_same old new (label_under label row) kids) = λ i. h i && all i in
    let step = filled c.loop-branch.list.items (below_same old new (label_under label row) kids) (below_same old new label after) c.push.new.self.items c.add_kids.new.list.items c.put.new.list.items _ _ c.len-place.result
    (omega arith) c.in_ok-push.ensures.items added c.put.ensures.items in
    record {
      fewer = omega (arith, c.loop-branch.invariant.fewer, ap count c.in-Some.ensures);
      list = step ∙ ap (λ x. c.loop-branch.list.items ++ (x ∷ below_same old new (label_under label row) kids ++ below_same old new label after)) last
          ∙ ap (λ t. c.loop-branch.list.items ++ below_same old new label t) (sym rest) ∙ c.loop-branch.invariant.list;
      all = regroup c.loop-branch.all c.in_ok-here.here c.in_ok-inner.inner (rows_same old new label after)
          ∙ (λ i. c.loop-branch.all && (h i && (all i && rows_same old new label after)))
          ∙ ap (λ t. c.loop-branch.all && rows_same old new label t) (sym rest) ∙ c.loop-branch.invariant.all;
      memory = c.in_ok-inner.ensures.memory;
    }

pub add_kids-returns-then-is_empty-clause-list : goal.add_kids-returns-then-is_empty-clause-list
add_kids-returns-then-is_empty-clause-list t c =
    let none : seen c.args.trees ≡ empty = leaf c.args.trees (sym c.is_empty.ensures ∙ c.if-is_empty.true) in
    sym (append-nil c.args.list.now.items)
    ∙ ap (λ t. c.args.list.now.items ++ below_same (seen c.args.pages.now.old.now.trees) (seen c.args.pages.now.new.now.trees) c.args.label t) (sym none)

pub add_kids-returns-then-is_empty-clause-all : goal.add_kids-returns-then-is_empty-clause-all
add_kids-returns-then-is_empty-clause-all t c =
    let none : seen c.args.trees ≡ empty = leaf c.args.trees (sym c.is_empty.ensures ∙ c.if-is_empty.true) in
    ap (rows_same (seen c.args.pages.now.old.now.trees) (seen c.args.pages.now.new.now.trees) c.args.label) (sym none)
