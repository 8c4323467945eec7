-- Whether `headers` refers to cells of the same table.
use Rattle.std.specs.Prelude.{◌&&◌, not, ℕ, List, [], ◌∷◌, ◌++◌, codes, Bool, if◌then◌else◌, Option, Some, None, IfSome, IsTrue}
use Rattle.std.specs.List.{list_all, list_any}
use Rattle.snap_tree.specs.declared.row.NodeId.{NodeId}
use Rattle.snap_tree.specs.declared.row.Row.{Row}
use Rattle.snap_tree.specs.Labels.{id_of}
use Rattle.snap_tree.specs.Rows.{has_number, is_html, is_key}
use Rattle.snap_tree.specs.Trees.{Trees, empty, tree, Document}
use Rattle.texts.specs.Words.{words}
use Rattle.acc_tree.specs.declared.above.Above.{Above}
use Rattle.acc_tree.specs.declared.attributes.Attribute.TheVariants as attribute
use Rattle.acc_tree.specs.Inclusion.{exposed}
use Rattle.acc_tree.specs.Seen.{text_at, has, is_blank_at}
use Rattle.rule_core.specs.declared.info.RuleInfo.{RuleInfo}
use Rattle.rule_core.specs.declared.info.Class.TheVariants.{SelfOnly, Table}
use Rattle.rule_core.specs.declared.reason.Reason.TheVariants.{HeadersOutside}
use Rattle.rule_core.specs.declared.finding.Finding.{Finding}
use Rattle.rule_core.specs.declared.verdict.Verdict.{Verdict}
use Rattle.rule_core.specs.Infos.{atomic}
use Rattle.rule_core.specs.Findings.{met, failed, verdict_of}
use Rattle.rules_tables.specs.TableRows.{is_cell}
use Rattle.rules_tables.specs.Tables.{in_table, below, said_in_table}

-- each `td` and `th` among these trees that stands in no table among them
abbrev pub own_cells : Trees → List Row
own_cells empty = []
own_cells (tree row kids after) =
    ((if is_cell row then row ∷ [] else []) ++ (if is_html (codes "table") row then [] else own_cells kids)) ++ own_cells after

-- it isn't the node itself, and has this id
abbrev pub is_other_named : NodeId → List ℕ → Row → Bool
is_other_named n id row = not (has_number n row) && is_key id (id_of row)

-- the word is the id of another cell of the table
abbrev pub refers_inside : Trees → NodeId → List ℕ → Bool
refers_inside table n word = list_any (is_other_named n word) (own_cells table)

-- the same of the table of a number
abbrev pub IsCellOf : Trees → NodeId → NodeId → List ℕ → Type 0
IsCellOf trees table n word = IfSome (below trees table) (λ t. IsTrue (refers_inside t n word))

abbrev pub refer_inside : Trees → NodeId → List (List ℕ) → Bool
refer_inside table n words = list_all (refers_inside table n) words

abbrev pub headers_finding : Row → Trees → Finding
headers_finding row table = if refer_inside table row.id (words (text_at attribute.Headers row)) then met else failed HeadersOutside

abbrev pub is_headers_target : Above → Row → Bool
is_headers_target above row = (is_cell row && not (is_blank_at attribute.Headers row)) && (in_table above && exposed above row)

-- the target is an exposed `td` or `th` whose `headers` isn't blank and whose nearest table has the role table
-- or grid; the evidence is `headers`
abbrev pub headers_verdict : Above → Row → Trees → Option Verdict
headers_verdict above row table =
    if is_headers_target above row then Some (verdict_of (headers_finding row table) (text_at attribute.Headers row)) else None

-- headers attribute specified on a cell refers to cells in the same table element
abbrev pub headers_refer_to_cells : Document → NodeId → Option Verdict
headers_refer_to_cells = said_in_table (has attribute.Headers) headers_verdict

abbrev pub headers_refer_to_cells_info : RuleInfo
headers_refer_to_cells_info = atomic 24 (codes "a25f45") SelfOnly Table
