-- Whether some cell of its table is assigned to a header.
use Rattle.std.specs.Prelude.{◌&&◌, ◌+◌, nat_lt, ℕ, List, [], ◌∷◌, ◌++◌, codes, decimal, length, Bool, true, false, if◌then◌else◌, Option, Some, None}
use Rattle.aria_tables.specs.declared.role.Role.{Role}
use Rattle.aria_tables.specs.declared.role.Role.TheVariants as role
use Rattle.snap_tree.specs.declared.row.NodeId.{NodeId}
use Rattle.snap_tree.specs.declared.row.Row.{Row}
use Rattle.snap_tree.specs.Rows.{is_html}
use Rattle.snap_tree.specs.Trees.{Trees, Document}
use Rattle.acc_tree.specs.declared.above.Above.{Above}
use Rattle.acc_tree.specs.Inclusion.{included}
use Rattle.acc_tree.specs.Roles.{role_at}
use Rattle.rule_core.specs.declared.info.RuleInfo.{RuleInfo}
use Rattle.rule_core.specs.declared.info.Class.TheVariants.{SelfOnly, Table}
use Rattle.rule_core.specs.declared.reason.Reason.TheVariants.{NoCells, LargeGrid}
use Rattle.rule_core.specs.declared.finding.Finding.{Finding}
use Rattle.rule_core.specs.declared.verdict.Verdict.{Verdict}
use Rattle.rule_core.specs.Infos.{atomic}
use Rattle.rule_core.specs.Findings.{met, failed, cant_tell, verdict_of}
use Rattle.rules_tables.specs.declared.survey.TheConstants.{MOST_SLOTS}
use Rattle.rules_tables.specs.Assigned.{assigned}
use Rattle.rules_tables.specs.Grid.{Placed, grid, slots}
use Rattle.rules_tables.specs.TableRows.{TableRow, table_rows}
use Rattle.rules_tables.specs.Tables.{in_table, said_in_table}

abbrev pub is_header_role : Option Role → Bool
is_header_role (Some role.Columnheader) = true
is_header_role (Some role.Rowheader) = true
is_header_role _ = false

abbrev pub is_header_target : Above → Row → Bool
is_header_target above row = is_header_role (role_at above row) && (in_table above && included above row)

abbrev pub cells_finding : List Placed → Finding
cells_finding [] = failed NoCells
cells_finding (p ∷ cells) = met

-- a large grid isn't searched
abbrev pub header_finding : Above → Row → List TableRow → Finding
header_finding above row rows =
    if nat_lt MOST_SLOTS (slots rows) then cant_tell LargeGrid else cells_finding (assigned above row (grid rows))

-- the number of the cells of some rows
abbrev pub cell_count : List TableRow → ℕ
cell_count [] = 0
cell_count (row ∷ rows) = length row.cells + cell_count rows

abbrev pub cells_text : List TableRow → List ℕ
cells_text rows = codes "cells " ++ decimal (cell_count rows)

-- the target is an included `th` of role columnheader or rowheader whose nearest table has the role table or
-- grid; the evidence is the number of the cells of that table
abbrev pub header_verdict : Above → Row → Trees → Option Verdict
header_verdict above row table =
    if is_header_target above row then Some (verdict_of (header_finding above row (table_rows 0 table)) (cells_text (table_rows 0 table))) else None

-- table header cell has assigned cells
abbrev pub header_has_cells : Document → NodeId → Option Verdict
header_has_cells = said_in_table (is_html (codes "th")) header_verdict

abbrev pub header_has_cells_info : RuleInfo
header_has_cells_info = atomic 25 (codes "d0f69e") SelfOnly Table
