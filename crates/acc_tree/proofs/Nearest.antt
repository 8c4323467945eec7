-- What is nearest above a node is the first of its kind among those above it.
use Rattle.std.proofs.Common.{◌≡◌, List, [], ◌∷◌, Bool, true, false, if◌then◌else◌, Option, Some, None, option_map, refl, sym, ◌∙◌, ap}
use Rattle.std.specs.List.{find}
use Rattle.snap_tree.specs.declared.row.NodeId.{NodeId}
use Rattle.snap_tree.specs.declared.row.Row.{Row}
use Rattle.snap_tree.specs.Spots.{Spot, spot}
use Rattle.snap_tree.specs.Trees.{Trees}
use Rattle.acc_tree.specs.Frames.{is_table, is_label, table_at, above_of}
use Rattle.acc_tree.specs.Sights.{Sight, summed, first_table, first_label, TellsNearest}
use Rattle.acc_tree.specs.Tags.{html_tag}
use Rattle.acc_tree.proofs.Asking.{is_nearest, not_nearest}
use Rattle.acc_tree.proofs.Sighting.{sight_is_spot}

table_first : (rows : List Row) → (above_of rows).table ≡ first_table rows
table_first [] = refl
table_first (row ∷ rows) = by_tag (is_table (html_tag row)) refl (table_first rows)
  where
    by_tag : (b : Bool) → is_table (html_tag row) ≡ b → (above_of rows).table ≡ first_table rows → (above_of (row ∷ rows)).table ≡ first_table (row ∷ rows)
    by_tag true e h = sym (is_nearest (above_of rows) row e) ∙ sym (ap (λ b. option_map table_at (if b then Some row else find (λ r. is_table (html_tag r)) rows)) e)
    by_tag false e h = sym (not_nearest (above_of rows) row e) ∙ h ∙ sym (ap (λ b. option_map table_at (if b then Some row else find (λ r. is_table (html_tag r)) rows)) e)

label_first : (rows : List Row) → (above_of rows).label ≡ first_label rows
label_first [] = refl
label_first (row ∷ rows) = by_tag (is_label (html_tag row)) refl (label_first rows)
  where
    by_tag : (b : Bool) → is_label (html_tag row) ≡ b → (above_of rows).label ≡ first_label rows → (above_of (row ∷ rows)).label ≡ first_label (row ∷ rows)
    by_tag true e h = rw e refl
    by_tag false e h = rw e h

told_by : {A : Type 0} (f : Sight → A) (g : Spot → A) → ((s : Spot) → f (summed s) ≡ g s) → (o : Option Spot) → option_map f (option_map summed o) ≡ option_map g o
told_by f g same None = refl
told_by f g same (Some s) = ap Some (same s)

pub tells_nearest : (t : Trees) (n : NodeId) → TellsNearest t n
tells_nearest t n = record {
  table = ap (option_map (λ (s : Sight). s.above.table)) (sight_is_spot t n) ∙ told_by (λ s. s.above.table) (λ s. first_table s.above) (λ s. table_first s.above) (spot t n);
  label = ap (option_map (λ (s : Sight). s.above.label)) (sight_is_spot t n) ∙ told_by (λ s. s.above.label) (λ s. first_label s.above) (λ s. label_first s.above) (spot t n);
}
