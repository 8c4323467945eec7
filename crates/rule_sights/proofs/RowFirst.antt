-- The row of a number is looked at before its sight.
use Rattle.std.proofs.Common.{◌≡◌, Bool, true, false, cond, Option, Some, None, sym, ap, ◌∙◌, refl}
use Rattle.std.specs.Option.{option_map, option_and_then}
use Rattle.snap_tree.specs.declared.row.NodeId.{NodeId}
use Rattle.snap_tree.specs.declared.row.Row.{Row}
use Rattle.snap_tree.specs.Spots.{Spot, spot}
use Rattle.snap_tree.specs.Trees.{Trees}
use Rattle.acc_tree.specs.Seen.{seen_row, seen}
use Rattle.acc_tree.specs.Sights.{Sight, sight_of, summed, seen_spot}
use Rattle.acc_tree.proofs.Sighting.{sight_is_spot, seen_spot_is}
use Rattle.rule_sights.specs.Nodes.{if_row, sight_where, row_of}

abbrev row_at : Option Spot → Option Row
row_at o = option_map (λ s. s.row) o

-- the sight that a spot makes among what is seen
abbrev seen_at : Option Spot → Option Sight
seen_at o = option_map summed (option_map seen_spot o)

sight_seen : (t : Trees) (n : NodeId) → sight_of (seen t) n ≡ seen_at (spot t n)
sight_seen t n = sight_is_spot (seen t) n ∙ ap (option_map summed) (seen_spot_is t n)

none_at : (p : Row → Bool) (o : Option Spot) → row_at o ≡ None → None ≡ option_and_then (if_row p) (seen_at o)
none_at p None e = refl
none_at p (Some s) e = cc

same_row : (o : Spot) (row : Row) → Some o.row ≡ Some row → o.row ≡ row
same_row o row e = cc

hasnt_at : (p : Row → Bool) (o : Option Spot) (row : Row) → row_at o ≡ Some row → p (seen_row row) ≡ false → None ≡ option_and_then (if_row p) (seen_at o)
hasnt_at p None row e h = refl
hasnt_at p (Some s) row e h =
    sym (ap (λ b. cond b (Some (summed (seen_spot s))) None) (ap (λ r. p (seen_row r)) (same_row s row e) ∙ h))

has_at : (p : Row → Bool) (o : Option Spot) (row : Row) → row_at o ≡ Some row → p (seen_row row) ≡ true → seen_at o ≡ option_and_then (if_row p) (seen_at o)
has_at p None row e h = refl
has_at p (Some s) row e h =
    sym (ap (λ b. cond b (Some (summed (seen_spot s))) None) (ap (λ r. p (seen_row r)) (same_row s row e) ∙ h))

pub no_node : (p : Row → Bool) (t : Trees) (n : NodeId) → option_map (λ s. s.row) (spot t n) ≡ None → None ≡ sight_where p (seen t) n
no_node p t n e = none_at p (spot t n) e ∙ sym (ap (option_and_then (if_row p)) (sight_seen t n))

pub has_not : (p : Row → Bool) (t : Trees) (n : NodeId) (row : Row) → option_map (λ s. s.row) (spot t n) ≡ Some row → p (seen_row row) ≡ false → None ≡ sight_where p (seen t) n
has_not p t n row e h = hasnt_at p (spot t n) row e h ∙ sym (ap (option_and_then (if_row p)) (sight_seen t n))

pub has_it : (p : Row → Bool) (t : Trees) (n : NodeId) (row : Row) → option_map (λ s. s.row) (spot t n) ≡ Some row → p (seen_row row) ≡ true → sight_of (seen t) n ≡ sight_where p (seen t) n
has_it p t n row e h =
    sight_seen t n ∙ has_at p (spot t n) row e h ∙ sym (ap (option_and_then (if_row p)) (sight_seen t n))

row_seen_at : (o : Option Spot) → option_map seen_row (row_at o) ≡ option_map (λ s. s.row) (seen_at o)
row_seen_at None = refl
row_seen_at (Some s) = refl

pub row_seen : (t : Trees) (n : NodeId) → option_map seen_row (option_map (λ s. s.row) (spot t n)) ≡ row_of t n
row_seen t n = row_seen_at (spot t n) ∙ sym (ap (option_map (λ s. s.row)) (sight_seen t n))
