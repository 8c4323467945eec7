-- The rules say something of each target, and of no other node.
use Rattle.std.specs.Prelude.{◌≡◌, ◌&&◌, Bool, false, codes}
use Rattle.std.specs.Option.{is_some, option_map_or}
use Rattle.snap_tree.specs.declared.row.NodeId.{NodeId}
use Rattle.snap_tree.specs.declared.row.Row.{Row}
use Rattle.snap_tree.specs.Rows.{is_html}
use Rattle.snap_tree.specs.Trees.{Document}
use Rattle.snap_tree.specs.Well.{IsWell}
use Rattle.acc_tree.specs.declared.above.Above.{Above}
use Rattle.acc_tree.specs.declared.attributes.Attribute.TheVariants as attribute
use Rattle.acc_tree.specs.Seen.{has, seen}
use Rattle.acc_tree.specs.Sights.{sight_of}
use Rattle.rules_tables.specs.HeaderHasCells.{is_header_target, header_has_cells}
use Rattle.rules_tables.specs.HeadersReferToCells.{is_headers_target, headers_refer_to_cells}

-- a node of the page is a target by what is above it and its row
abbrev pub is_target : (Above → Row → Bool) → Document → NodeId → Bool
is_target target page n = option_map_or (λ s. target s.above s.row) (sight_of (seen page.trees) n) false

-- an included `th` of role columnheader or rowheader whose nearest table has the role table or grid
abbrev pub header_target : Above → Row → Bool
header_target above row = is_html (codes "th") row && is_header_target above row

-- an exposed `td` or `th` whose `headers` isn't blank and whose nearest table has the role table or grid
abbrev pub headers_target : Above → Row → Bool
headers_target above row = has attribute.Headers row && is_headers_target above row

abbrev pub JudgesHeaders : Document → NodeId → Type 0
JudgesHeaders page n = IsWell page.trees → is_some (header_has_cells page n) ≡ is_target header_target page n

abbrev pub JudgesReferences : Document → NodeId → Type 0
JudgesReferences page n = IsWell page.trees → is_some (headers_refer_to_cells page n) ≡ is_target headers_target page n
