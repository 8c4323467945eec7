-- The trees that rows make: each row goes under its parent.
use Rattle.std.specs.Prelude.{◌==◌, List, [], ◌∷◌, Bool, false, if◌then◌else◌, Option, Some, None, unwrap_or, option_map}
use Rattle.std.specs.Option.{option_or}
use Rattle.snap_tree.specs.declared.row.NodeId.{NodeId}
use Rattle.snap_tree.specs.declared.row.Row.{Row}
use Rattle.snap_tree.specs.declared.row.Raw.{Raw}
use Rattle.snap_tree.specs.Trees.{Trees, empty, tree, beside, Document, document}

-- it is there, and is this number
abbrev pub is_number : Option NodeId → NodeId → Bool
is_number None n = false
is_number (Some p) n = p.0 == n.0

-- the row `child` names the row `r` as its parent
abbrev pub names : Row → Row → Bool
names child r = is_number child.parent r.id

-- Rows are taken from the last to the first. A row comes before the trees of what follows it, and
-- takes below itself those leading ones whose roots name it.
abbrev pub taken : Row → Trees → Trees
taken r empty = empty
taken r (tree x kids after) = if names x r then tree x kids (taken r after) else empty

abbrev pub left : Row → Trees → Trees
left r empty = empty
left r (tree x kids after) = if names x r then left r after else tree x kids after

abbrev pub grown : List Row → Trees
grown [] = empty
grown (r ∷ rows) = tree r (taken r (grown rows)) (left r (grown rows))

-- the page that an address and rows make, with no language subtag
abbrev pub page_of : Raw → Document
page_of raw = document raw.address [] (grown raw.rows)

-- The same, from the first row to the last: each row goes under its parent as the last child. The
-- nodes that are open for one more row are the last root, its last child, and so on down; of those
-- that the row names it goes under the deepest.
abbrev pub under : Row → Trees → Option Trees
under r empty = None
under r (tree x kids empty) =
    option_or (option_map (λ k. tree x k empty) (under r kids))
    (if names r x then Some (tree x (beside kids (tree r empty empty)) empty) else None)
under r (tree x kids (tree y below after)) = option_map (tree x kids) (under r (tree y below after))

-- the trees with one more row: under its parent, or as a root where it names none that is open
abbrev pub planted : Row → Trees → Trees
planted r t = unwrap_or (under r t) (beside t (tree r empty empty))
