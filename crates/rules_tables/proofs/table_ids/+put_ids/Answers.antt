use Rattle.std.proofs.Common.{◌≡◌, ◌||◌, ℕ, List, ap, sym, ◌∙◌, arith}
use Rattle.snap_tree.specs.declared.row.NodeId.{NodeId}
use Rattle.snap_tree.specs.Trees.{count, tree}
use Rattle.acc_tree.specs.Seen.{seen_row, seen}
use Rattle.rules_tables.specs.Bearers.{bearer_of, has_other}
use Rattle.rules_tables.specs.HeadersReferToCells.{refers_inside}
use Rattle.rules_tables.proofs.Naming.{ids_more, ids_beside}
use Rattle.rules_tables.proofs.Seeing.{lent, lent_first}
use Rattle.rules_tables.proofs.table_ids.+put_ids.Goals.{then-not-is_table+in_ok-put_ids, else-not-is_table}
use Rattle.rules_tables.proofs.table_ids.+put_ids.Goals as goal

pub loop-next-preserved : goal.loop-next-preserved
loop-next-preserved t c =
    let b = c.in-Some.field-0 in
    let old = c.loop-next.ids in
    let row = seen_row b.row.now in
    let kids = seen b.kids in
    let after = seen b.after in
    let rest : lent c.first-next-in-Some.result ≡ b.after = lent_first b.after c.first-next-in-Some.result c.first-next-in-Some.ensures in
    let was : lent c.loop-next.next ≡ tree b.row.now b.kids b.after = ap lent c.in-Some.is in
    let more : (w : List ℕ) (m : NodeId) → (has_other (bearer_of c.if-not-is_table.ids w) m || refers_inside after m w) ≡ (has_other (bearer_of old w) m || refers_inside (tree row kids after) m w) =
    elim c.if-not-is_table.branch [
      | then-not-is_table+in_ok-put_ids x ↦ λ w m. ap (λ ids. has_other (bearer_of ids w) m || refers_inside after m w) x.ids-is
          ∙ ids_more old c.put_cell.new.ids x.put_ids.new.ids row kids after c.in_ok-put_cell.ensures x.in_ok-put_ids.ensures (sym c.is_table.ensures ∙ x.if-not-is_table.true) w m
      | else-not-is_table x ↦ λ w m. ap (λ ids. has_other (bearer_of ids w) m || refers_inside after m w) x.ids-is
          ∙ ids_beside old c.put_cell.new.ids row kids after c.in_ok-put_cell.ensures (sym c.is_table.ensures ∙ x.if-not-is_table.false) w m
    ] in
    let short = ap count rest in
    let long = ap count was in (
      λ w m. ap (λ ts. has_other (bearer_of c.if-not-is_table.ids w) m || refers_inside (seen ts) m w) rest ∙ more w m
          ∙ ap (λ ts. has_other (bearer_of old w) m || refers_inside (seen ts) m w) (sym was) ∙ c.loop-next.invariant.0 w m,
      omega (arith, c.loop-next.invariant.1),
    )
