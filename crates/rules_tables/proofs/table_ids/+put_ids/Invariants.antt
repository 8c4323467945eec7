use Rattle.std.proofs.Common.{◌≡◌, ◌≤◌, ◌||◌, ℕ, List}
use Rattle.snap_tree.specs.declared.row.NodeId.{NodeId}
use Rattle.snap_tree.specs.Trees.{count}
use Rattle.acc_tree.specs.Seen.{seen}
use Rattle.rules_tables.specs.Bearers.{bearer_of, has_other}
use Rattle.rules_tables.specs.HeadersReferToCells.{refers_inside}
use Rattle.rules_tables.proofs.Seeing.{lent}
use Rattle.rules_tables.proofs.table_ids.+put_ids.Given as goal

abbrev pub decreases-put_ids : goal.decreases-put_ids
decreases-put_ids l = count l.table.now

abbrev pub invariant-loop-next : goal.invariant-loop-next
invariant-loop-next l =
    ((w : List ℕ) (m : NodeId) → (has_other (bearer_of l.ids w) m || refers_inside (seen (lent l.next)) m w) ≡ (has_other (bearer_of l.fn.ids w) m || refers_inside (seen l.table) m w))
    × (count (lent l.next) ≤ count l.table)

abbrev pub decreases-loop-next : goal.decreases-loop-next
decreases-loop-next l = count (lent l.next)
