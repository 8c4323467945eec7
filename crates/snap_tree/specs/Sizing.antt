-- What a pass from the last row to the first keeps of the trees that it has grown.
use Rattle.std.specs.Prelude.{ℕ, suc, ◌+◌, List, [], ◌∷◌, if◌then◌else◌}
use Rattle.snap_tree.specs.declared.row.Row.{Row}
use Rattle.snap_tree.specs.declared.sizes.Waiting.{Waiting}
use Rattle.snap_tree.specs.Trees.{Trees, empty, tree, count}
use Rattle.snap_tree.specs.Grown.{is_number}

-- the trees, of which the first begins at this place
abbrev pub waiting_from : ℕ → Trees → List Waiting
waiting_from from empty = []
waiting_from from (tree r kids after) = record { parent = r.parent; end = from + suc (count kids) } ∷ waiting_from (from + suc (count kids)) after

-- where the trees end that the row takes, when they begin at this place
abbrev pub end_of : Row → ℕ → List Waiting → ℕ
end_of r from [] = from
end_of r from (x ∷ xs) = if is_number x.parent r.id then end_of r x.end xs else from

abbrev pub left_roots : Row → List Waiting → List Waiting
left_roots r [] = []
left_roots r (x ∷ xs) = if is_number x.parent r.id then left_roots r xs else x ∷ xs
