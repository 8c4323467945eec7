-- The nodes of the new page, with what is known of each.
use Rattle.std.proofs.Common.{◌≡◌, List, length, filter, map, Bool, Option, sym, ◌∙◌, ap}
use Rattle.std.specs.List.{filter_map}
use Rattle.snap_tree.specs.declared.row.NodeId.{NodeId}
use Rattle.snap_tree.specs.declared.row.Row.{Row}
use Rattle.snap_tree.specs.Trees.{Document, rows_of}
use Rattle.judge_core.specs.declared.outcomes.OutRow.{OutRow}
use Rattle.reaudit.specs.declared.known.Placed.{Placed}
use Rattle.reaudit.specs.Known.{placed_of, ArePlaced}
use Rattle.judged_rows.proofs.Merged.{filter_map_map}
use Rattle.reaudit.proofs.Counts.{length-filter-map}

-- those that pass a test of their numbers
pub affected_in : (old new : Document) (placed : List Placed) → ArePlaced old new placed → (test : NodeId → Bool) → length (filter (λ (p : Placed). test p.node) placed) ≡ length (filter test (map (λ row. row.id) (rows_of new.trees)))
affected_in old new placed p test =
    ap (λ xs. length (filter (λ (p : Placed). test p.node) xs)) p
    ∙ length-filter-map (λ (row : Row). placed_of old new row.id) (λ (p : Placed). test p.node) (rows_of new.trees)
    ∙ sym (length-filter-map (λ (row : Row). row.id) test (rows_of new.trees))

-- what there is of each, in the order of the nodes
pub rows_are : (old new : Document) (placed : List Placed) → ArePlaced old new placed → (f : NodeId → Option OutRow) → filter_map (λ (p : Placed). f p.node) placed ≡ filter_map (λ row. f row.id) (rows_of new.trees)
rows_are old new placed p f =
    ap (filter_map (λ (p : Placed). f p.node)) p ∙ filter_map_map (λ (p : Placed). f p.node) (λ (row : Row). placed_of old new row.id) (rows_of new.trees)
