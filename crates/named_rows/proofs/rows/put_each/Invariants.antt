use Rattle.std.proofs.Common.{◌≡◌, ◌+◌, ◌≤◌, length, vec_len, vec_capacity}
use Rattle.std.specs.Vec.Iter.{into_iter_items}
use Rattle.named_rows.specs.ByName.{put_rows, IsInOrder}
use Rattle.named_rows.proofs.rows.put_each.Given as goal

-- what is left to put makes of the rows what all makes of the first ones
abbrev pub invariant-loop-row : goal.invariant-loop-row
invariant-loop-row g l = record {
  iterates : (goal.iterator-loop-row g).can_next l.row-iterator × (goal.iterator-loop-row g).is_finite l.row-iterator;
  left : put_rows g.T.Named.name (into_iter_items l.row-iterator) l.rows.items ≡ put_rows g.T.Named.name l.fn.more.items l.initial.rows.items;
  in_order : IsInOrder g.T.Named.name l.rows.items;
  room : vec_len l.rows + length (into_iter_items l.row-iterator) ≤ vec_capacity l.rows;
}
