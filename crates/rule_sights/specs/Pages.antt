-- The root of a page, and what rules say of it. A page is a tree whose root is an HTML element `html`.
use Rattle.std.specs.Prelude.{◌&&◌, Bool, if◌then◌else◌, codes, Option, Some, None, option_and_then}
use Rattle.std.specs.Option.{is_none}
use Rattle.snap_tree.specs.declared.row.NodeId.{NodeId}
use Rattle.snap_tree.specs.declared.row.Row.{Row}
use Rattle.snap_tree.specs.Trees.{Trees, Document}
use Rattle.snap_tree.specs.Rows.{is_html}
use Rattle.rule_core.specs.declared.verdict.Verdict.{Verdict}
use Rattle.rule_sights.specs.Nodes.{row_of}

-- an HTML element `html` without a parent
abbrev pub is_page_root : Row → Bool
is_page_root row = is_none row.parent && is_html (codes "html") row

abbrev pub if_root : Row → Option Row
if_root row = if is_page_root row then Some row else None

-- what is seen of the root of a page, where the node of the number is that
abbrev pub page_root : Trees → NodeId → Option Row
page_root trees n = option_and_then if_root (row_of trees n)

-- of the root of a page: what is said of its row
abbrev pub said_of_root : (Row → Option Verdict) → Document → NodeId → Option Verdict
said_of_root says page n = option_and_then says (page_root page.trees n)
