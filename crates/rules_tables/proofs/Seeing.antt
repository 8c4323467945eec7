-- What is seen of rows and trees says of tables what the page says itself.
use Rattle.std.proofs.Common.{◌≡◌, ℕ, List, Option, Some, None, MatchOption, option_map, refl, sym, ap, ◌∙◌}
use Rattle.snap_tree.specs.declared.branches.Branch.{Branch}
use Rattle.snap_tree.specs.declared.row.Body.{Body}
use Rattle.snap_tree.specs.declared.row.Body.TheVariants.{Element, Words}
use Rattle.snap_tree.specs.declared.row.NodeId.{NodeId}
use Rattle.snap_tree.specs.declared.row.Row.{Row}
use Rattle.snap_tree.specs.Rows.{is_html, is_html_body}
use Rattle.snap_tree.specs.Spots.{Spot, spot}
use Rattle.snap_tree.specs.Trees.{Trees, empty, tree}
use Rattle.acc_tree.specs.Seen.{seen_row, seen_body, seen}
use Rattle.acc_tree.specs.Sights.{summed, seen_spot}
use Rattle.acc_tree.proofs.Sighting.{sight_is_spot, seen_spot_is}
use Rattle.rules_tables.specs.Tables.{below}

body_seen : (tag : List ℕ) (b : Body) → is_html_body tag (seen_body b) ≡ is_html_body tag b
body_seen tag (Element space name attrs) = refl
body_seen tag (Words text) = refl

pub html_seen : (tag : List ℕ) (row : Row) → is_html tag (seen_row row) ≡ is_html tag row
html_seen tag row = body_seen tag row.body

-- the trees that a first branch stands for
abbrev pub lent : Option Branch → Trees
lent None = empty
lent (Some b) = tree b.row.now b.kids b.after

pub lent_first : (t : Trees) (b : Option Branch) → MatchOption b (t ≡ empty) (λ b. t ≡ tree b.row.now b.kids b.after) → lent b ≡ t
lent_first t None h = sym h
lent_first t (Some b) h = sym h

below_at : (o : Option Spot) → option_map seen (option_map (λ s. s.below) o) ≡ option_map (λ s. s.below) (option_map summed (option_map seen_spot o))
below_at None = refl
below_at (Some s) = refl

pub below_seen : (t : Trees) (n : NodeId) (o : Option Trees) → o ≡ option_map (λ s. s.below) (spot t n) → option_map seen o ≡ below (seen t) n
below_seen t n o is = ap (option_map seen) is ∙ below_at (spot t n) ∙ sym (ap (option_map (λ s. s.below)) (sight_is_spot (seen t) n ∙ ap (option_map summed) (seen_spot_is t n)))
