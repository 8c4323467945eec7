-- What a rule says on a page.
use Rattle.std.specs.Prelude.{List, Option, option_map, length, ℕ}
use Rattle.std.specs.List.{filter_map}
use Rattle.snap_tree.specs.declared.row.NodeId.{NodeId}
use Rattle.snap_tree.specs.Trees.{Document, rows_of}
use Rattle.rule_core.specs.declared.verdict.NodeVerdict.{NodeVerdict}
use Rattle.rule_core.specs.declared.verdict.Verdict.{Verdict}

-- a verdict with its node, where there is one
abbrev pub on_node : NodeId → Option Verdict → Option NodeVerdict
on_node n verdict = option_map (λ v. record { node = n; verdict = v }) verdict

-- the verdicts on a page, in document order
abbrev pub page_verdicts : (Document → NodeId → Option Verdict) → Document → List NodeVerdict
page_verdicts says page = filter_map (λ row. on_node row.id (says page row.id)) (rows_of page.trees)

-- the number of a page's nodes
abbrev pub node_count : Document → ℕ
node_count page = length (rows_of page.trees)
