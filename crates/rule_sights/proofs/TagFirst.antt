-- The tag of a number is looked at before its sight.
use Rattle.std.proofs.Common.{◌≡◌, true, false, ℕ, List, Some, None, ◌∙◌}
use Rattle.std.specs.Option.{option_map}
use Rattle.snap_tree.specs.declared.row.NodeId.{NodeId}
use Rattle.snap_tree.specs.declared.row.Row.{Row}
use Rattle.snap_tree.specs.Rows.{is_html}
use Rattle.snap_tree.specs.Spots.{spot}
use Rattle.snap_tree.specs.Trees.{Trees}
use Rattle.acc_tree.specs.Seen.{seen}
use Rattle.acc_tree.specs.Sights.{sight_of}
use Rattle.rule_sights.specs.Nodes.{sight_where}
use Rattle.rule_sights.proofs.RowFirst.{has_not, has_it}
use Rattle.rule_sights.proofs.Seeing.{html_seen}

pub is_other : (tag : List ℕ) (t : Trees) (n : NodeId) (row : Row) → option_map (λ s. s.row) (spot t n) ≡ Some row → is_html tag row ≡ false → None ≡ sight_where (is_html tag) (seen t) n
is_other tag t n row e h = has_not (is_html tag) t n row e (html_seen tag row ∙ h)

pub is_that : (tag : List ℕ) (t : Trees) (n : NodeId) (row : Row) → option_map (λ s. s.row) (spot t n) ≡ Some row → is_html tag row ≡ true → sight_of (seen t) n ≡ sight_where (is_html tag) (seen t) n
is_that tag t n row e h = has_it (is_html tag) t n row e (html_seen tag row ∙ h)
