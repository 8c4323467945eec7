use Rattle.std.proofs.Common.{◌≡◌, ◌&&◌, not, ◌++◌, ◌∷◌, ◌∙◌, sym, ap, subst, append-nil, arith}
use Rattle.std.proofs.lemmas.Grind.{common_steps}
use Rattle.std.specs.Option.{is_some, option_copied}
use Rattle.snap_tree.specs.Trees.{empty, tree, count}
use Rattle.acc_tree.specs.Seen.{seen_row, seen}
use Rattle.acc_tree.specs.Frames.{above_of}
use Rattle.page_keys.specs.Standing.{Stand}
use Rattle.page_changes.specs.Beside.{IsPair, AreBeside, ahead_of}
use Rattle.page_changes.specs.Here.{frame_here, tree_here, marks_at, marks_here}
use Rattle.page_changes.proofs.Stepping.{leaf, filled, regroup}
use Rattle.page_changes.proofs.marks.+adding.Goals as goal

pub add_marks-loop-branch-preserved : goal.add_marks-loop-branch-preserved
add_marks-loop-branch-preserved t c =
    let old = seen c.args.old.now.trees in
    let new = seen c.args.new.now.trees in
    let pair = option_copied c.args.pair in
    let trees = seen c.args.trees in
    let ahead = ahead_of c.args.ahead in
    let same = c.args.above_same in
    let row = seen_row c.in-Some.branch.row.now in
    let kids = seen c.in-Some.branch.kids in
    let after = seen c.in-Some.branch.after in
    let met = c.meet-frame.result in
    let rest : seen c.loop-branch.rest ≡ tree row kids after = ap seen c.in-Some.ensures in
    let root : c.is_none.result ≡ not (is_some row.parent) = grind (arith, common_steps) in
    record {
      fewer = omega (arith, c.loop-branch.invariant.fewer, ap count c.in-Some.ensures);
      longer = omega (arith, c.loop-branch.invariant.longer, c.in_ok-inner.ensures.longer, c.in_ok-push.ensures.len, c.put.ensures.len);
      beside = λ ups others b h.
          let now = c.loop-branch.invariant.beside ups others b h in
          let stands : Stand old ups (tree row kids after) = subst (Stand old ups) rest now.here in
          let m = c.meet-frame.ensures ups others stands.0 now.whole now.there now.above in
          record { whole = now.whole; here = stands.1.1; there = m.after; above = now.above };
      list = λ ups others b h.
          let above = above_of ups in
          let now = c.loop-branch.invariant.beside ups others b h in
          let stands : Stand old ups (tree row kids after) = subst (Stand old ups) rest now.here in
          let m = c.meet-frame.ensures ups others stands.0 now.whole now.there now.above in
          let inside : AreBeside old new (option_copied c.as_ref.result) (row ∷ ups) m.beneath kids (ahead_of met.below) =
          record { whole = now.whole; here = stands.1.0; there = m.below; above = subst (λ o. IsPair o (above_of (row ∷ ups)) (above_of m.beneath)) (sym c.as_ref.ensures.value) m.pair } in
          let under = above_of (row ∷ ups) in
          let t = c.table_under.ensures above h in
          let added : c.add_below.new.list.items ≡ c.push.new.self.items ++ marks_here new under (frame_here new above row && same) kids =
          c.in_ok-inner.ensures.list (row ∷ ups) m.beneath inside t ∙ (λ i. c.push.new.self.items ++ marks_here new under (m.frame i && same) kids) in
          let all : c.in_ok-inner.inner ≡ tree_here new under kids = c.in_ok-inner.ensures.all (row ∷ ups) m.beneath inside t in
          let last : record { node = c.in-Some.branch.row.now.id; root = c.is_none.result; meta = c.is_html.result; table = c.args.table; itself = met.frame && (met.own && same); own = met.own; tree = met.frame && (met.own && (met.kids && c.in_ok-inner.inner)) } ≡ marks_at new above same row kids =
          λ i. record { node = row.id; root = root i; meta = c.is_html.ensures i; table = h i; itself = m.frame i && (m.own i && same); own = m.own i; tree = m.frame i && (m.own i && (m.roots i && all i)) } in
          let step = filled c.loop-branch.list.items (marks_here new under (frame_here new above row && same) kids) (marks_here new above same after) c.push.new.self.items c.add_below.new.list.items c.put.new.list.items _ _ c.len-place.result
          (omega arith) c.in_ok-push.ensures.items added c.put.ensures.items in
          step ∙ ap (λ x. c.loop-branch.list.items ++ (x ∷ marks_here new under (frame_here new above row && same) kids ++ marks_here new above same after)) last
          ∙ ap (λ t. c.loop-branch.list.items ++ marks_here new above same t) (sym rest) ∙ c.loop-branch.invariant.list ups others b h;
      all = λ ups others b h.
          let above = above_of ups in
          let now = c.loop-branch.invariant.beside ups others b h in
          let stands : Stand old ups (tree row kids after) = subst (Stand old ups) rest now.here in
          let m = c.meet-frame.ensures ups others stands.0 now.whole now.there now.above in
          let inside : AreBeside old new (option_copied c.as_ref.result) (row ∷ ups) m.beneath kids (ahead_of met.below) =
          record { whole = now.whole; here = stands.1.0; there = m.below; above = subst (λ o. IsPair o (above_of (row ∷ ups)) (above_of m.beneath)) (sym c.as_ref.ensures.value) m.pair } in
          let under = above_of (row ∷ ups) in
          let all : c.in_ok-inner.inner ≡ tree_here new under kids = c.in_ok-inner.ensures.all (row ∷ ups) m.beneath inside (c.table_under.ensures above h) in
          regroup c.loop-branch.all met.frame met.own met.kids c.in_ok-inner.inner (tree_here new above after)
          ∙ (λ i. c.loop-branch.all && (m.frame i && (m.own i && (m.roots i && (all i && tree_here new above after)))))
          ∙ ap (λ t. c.loop-branch.all && tree_here new above t) (sym rest) ∙ c.loop-branch.invariant.all ups others b h;
    }

pub add_below-returns-then-is_empty-clause-list : goal.add_below-returns-then-is_empty-clause-list
add_below-returns-then-is_empty-clause-list t c =
    λ ups others b h.
    let none : seen c.args.trees ≡ empty = leaf c.args.trees (sym c.is_empty.ensures ∙ c.if-is_empty.true) in
    sym (append-nil c.args.list.now.items)
    ∙ ap (λ t. c.args.list.now.items ++ marks_here (seen c.args.new.now.trees) (above_of ups) c.args.above_same t) (sym none)

pub add_below-returns-then-is_empty-clause-all : goal.add_below-returns-then-is_empty-clause-all
add_below-returns-then-is_empty-clause-all t c =
    λ ups others b h.
    let none : seen c.args.trees ≡ empty = leaf c.args.trees (sym c.is_empty.ensures ∙ c.if-is_empty.true) in
    ap (tree_here (seen c.args.new.now.trees) (above_of ups)) (sym none)
