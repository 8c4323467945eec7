-- Each rule on tables has a verdict exactly where the node is a target, and is local.
use Rattle.std.proofs.Common.{◌≡◌, ◌&&◌, not, codes, Bool, true, false, cond, Option, Some, None, option_map, option_and_then, refl, sym, ap, ◌∙◌, inl, inr, if◌then◌else◌}
use Rattle.std.proofs.lemmas.Bool.{false≢true, and_parts, or_right}
use Rattle.std.specs.Option.{is_some, option_map_or}
use Rattle.snap_tree.specs.declared.row.NodeId.{NodeId}
use Rattle.snap_tree.specs.declared.row.Row.{Row}
use Rattle.snap_tree.specs.Rows.{is_html}
use Rattle.snap_tree.specs.Trees.{Trees, Document, rows_of}
use Rattle.snap_tree.specs.Well.{AreApart}
use Rattle.acc_tree.specs.declared.above.Above.{Above}
use Rattle.acc_tree.specs.declared.above.TableAbove.{TableAbove}
use Rattle.acc_tree.specs.declared.attributes.Attribute.TheVariants as attribute
use Rattle.acc_tree.specs.Frames.{nothing_above}
use Rattle.acc_tree.specs.Inclusion.{included, exposed}
use Rattle.acc_tree.specs.Roles.{role_at}
use Rattle.acc_tree.specs.Seen.{has, seen, is_blank_at}
use Rattle.acc_tree.specs.Sights.{Sight, sight_of}
use Rattle.page_keys.specs.Classes.{table_in}
use Rattle.page_keys.specs.Laws.{itself, alone, table_sight}
use Rattle.rule_core.specs.declared.verdict.Verdict.{Verdict}
use Rattle.rule_core.specs.declared.info.Class.TheVariants.{Table}
use Rattle.rule_core.specs.Local.{IsLocal}
use Rattle.rule_core.proofs.Targets.{IsKept}
use Rattle.rule_sights.specs.Nodes.{if_row}
use Rattle.rule_sights.proofs.Told.{alone_told, table_told, both_told}
use Rattle.rule_sights.proofs.Resting.{kept, kept_as, by_rows}
use Rattle.rules_tables.specs.HeaderHasCells.{is_header_role, is_header_target, header_verdict, header_has_cells, header_has_cells_info}
use Rattle.rules_tables.specs.HeadersReferToCells.{is_headers_target, headers_verdict, headers_refer_to_cells, headers_refer_to_cells_info}
use Rattle.rules_tables.specs.TableRows.{is_cell}
use Rattle.rules_tables.specs.Tables.{in_table, below, below_table, is_table_role, said_in_table}
use Rattle.rules_tables.specs.TargetLaws.{JudgesHeaders, JudgesReferences, header_target, headers_target}
use Rattle.rules_tables.proofs.Referring.{Stands, stands, apart_seen}
use Rattle.rules_tables.proofs.CellTold.{said_by_table}

-- a cell in a table has something below its table
table_there : (t : Trees) (s : Sight) (o : Option TableAbove) → s.above.table ≡ o → option_map_or (λ (x : TableAbove). is_table_role x.role) o false ≡ true → Stands nothing_above t s
    → is_some (option_and_then (λ (x : TableAbove). below t x.node) o) ≡ true
table_there t s None e in_one at = absurd (false≢true in_one)
table_there t s (Some x) e in_one (inl free) = let no : None ≡ Some x = sym free.same_table ∙ e in cc
table_there t s (Some x) e in_one (inr at) =
    let is : Some x.node ≡ Some at.table.row.id = sym (ap (λ (o : Option TableAbove). option_map (λ (t : TableAbove). t.node) o) e) ∙ at.number_is in
    let same : at.table.row.id ≡ x.node = cc in
    ap (λ o. is_some (option_map (λ (s : Sight). s.below) o)) (ap (sight_of t) (sym same) ∙ at.found)

-- what is said of a node whose row passes the test
judged_at : (t : Trees) (says : Above → Row → Trees → Option Verdict) (target : Above → Row → Bool) → ((above : Above) (row : Row) (table : Trees) → is_some (says above row table) ≡ target above row)
    → ((above : Above) (row : Row) → target above row ≡ true → in_table above ≡ true) → (s : Sight) → (target s.above s.row ≡ true → Stands nothing_above t s)
    → is_some (option_and_then (says s.above s.row) (below_table t s.above)) ≡ target s.above s.row
judged_at t says target told tabled s at = by_target (target s.above s.row) refl
  where
    by_table : (o : Option Trees) → is_some o ≡ true → target s.above s.row ≡ true → is_some (option_and_then (says s.above s.row) o) ≡ true
    by_table None h e = absurd (false≢true h)
    by_table (Some table) h e = told s.above s.row table ∙ e

    unsaid : (o : Option Trees) → target s.above s.row ≡ false → is_some (option_and_then (says s.above s.row) o) ≡ false
    unsaid None e = refl
    unsaid (Some table) e = told s.above s.row table ∙ e

    by_target : (b : Bool) → target s.above s.row ≡ b → is_some (option_and_then (says s.above s.row) (below_table t s.above)) ≡ b
    by_target true e = by_table (below_table t s.above) (table_there t s s.above.table refl (tabled s.above s.row e) (at e)) e
    by_target false e = unsaid (below_table t s.above) e

judged : (t : Trees) (n : NodeId) (passes : Row → Bool) (says : Above → Row → Trees → Option Verdict) (target : Above → Row → Bool) → AreApart (rows_of t)
    → ((above : Above) (row : Row) (table : Trees) → is_some (says above row table) ≡ target above row) → ((above : Above) (row : Row) → target above row ≡ true → in_table above ≡ true)
    → ((above : Above) (row : Row) → passes row ≡ true → target above row ≡ true → is_cell row ≡ true) → (o : Option Sight) → sight_of t n ≡ o
    → is_some (option_and_then (λ (s : Sight). option_and_then (says s.above s.row) (below_table t s.above)) (option_and_then (if_row passes) o))
    ≡ option_map_or (λ (s : Sight). passes s.row && target s.above s.row) o false
judged t n passes says target apart told tabled cells None e = refl
judged t n passes says target apart told tabled cells (Some s) e = by_test (passes s.row) refl
  where
    by_test : (b : Bool) → passes s.row ≡ b → is_some (option_and_then (λ (s : Sight). option_and_then (says s.above s.row) (below_table t s.above)) (cond b (Some s) None))
        ≡ (b && target s.above s.row)
    by_test true p = judged_at t says target told tabled s (λ h. stands n nothing_above t apart s e (cells s.above s.row p h))
    by_test false p = refl

verdict_some : (b : Bool) (v : Verdict) → is_some (cond b (Some v) None) ≡ b
verdict_some true v = refl
verdict_some false v = refl

pub judges_headers : (page : Document) (n : NodeId) → JudgesHeaders page n
judges_headers page n well =
    judged (seen page.trees) n (is_html (codes "th")) header_verdict is_header_target (apart_seen page.trees well.apart) (λ above row table. verdict_some (is_header_target above row) _)
    (λ above row h. (and_parts (in_table above) (included above row) (and_parts (is_header_role (role_at above row)) (in_table above && included above row) h).1).0)
    (λ above row p h. or_right (is_html (codes "td") row) (is_html (codes "th") row) p)
    (sight_of (seen page.trees) n) refl

pub judges_references : (page : Document) (n : NodeId) → JudgesReferences page n
judges_references page n well =
    judged (seen page.trees) n (has attribute.Headers) headers_verdict is_headers_target (apart_seen page.trees well.apart) (λ above row table. verdict_some (is_headers_target above row) _)
    (λ above row h. (and_parts (in_table above) (exposed above row) (and_parts (is_cell row && not (is_blank_at attribute.Headers row)) (in_table above && exposed above row) h).1).0)
    (λ above row p h. (and_parts (is_cell row) (not (is_blank_at attribute.Headers row)) (and_parts (is_cell row && not (is_blank_at attribute.Headers row)) (in_table above && exposed above row) h).0).0)
    (sight_of (seen page.trees) n) refl

-- ---- locality

table_is : (t : Trees) (o : Option TableAbove) → option_and_then (λ x. below t x.node) o ≡ option_map (λ (s : Sight). s.below) (option_and_then (sight_of t) (option_map (λ (x : TableAbove). x.node) o))
table_is t None = refl
table_is t (Some x) = refl

-- what is below the nearest table of a node
below_is : (t : Trees) (n : NodeId) (s : Sight) → sight_of t n ≡ Some s → below_table t s.above ≡ option_map (λ (s : Sight). s.below) (table_sight t n)
below_is t n s e =
    table_is t s.above.table ∙ sym (ap (λ o. option_map (λ (s : Sight). s.below) (option_and_then (sight_of t) (option_and_then (λ (s : Sight). table_in s.above) o))) e)

cell_in : (t : Trees) (n : NodeId) (passes : Row → Bool) (says : Above → Row → Trees → Option Verdict) (o : Option Sight) → sight_of t n ≡ o
    → option_and_then (λ (s : Sight). option_and_then (says s.above s.row) (below_table t s.above)) (option_and_then (if_row passes) o) ≡ said_by_table passes says (option_map itself o, table_sight t n)
cell_in t n passes says None e = refl
cell_in t n passes says (Some s) e = by_test (passes s.row)
  where
    by_test : (b : Bool) → option_and_then (λ (s : Sight). option_and_then (says s.above s.row) (below_table t s.above)) (if b then Some s else None)
        ≡ (if b then option_and_then (says s.above s.row) (option_map (λ (s : Sight). s.below) (table_sight t n)) else None)
    by_test true = ap (option_and_then (says s.above s.row)) (below_is t n s e)
    by_test false = refl

-- a node by itself, and its nearest table
abbrev cell_tells : Trees → NodeId → Option (Row × Above) × Option Sight
cell_tells t n = (alone t n, table_sight t n)

kept_in_table : (passes : Row → Bool) (says : Above → Row → Trees → Option Verdict) → IsKept Table (said_in_table passes says)
kept_in_table passes says =
    kept_as Table (said_in_table passes says) (λ page n. said_by_table passes says (cell_tells (seen page.trees) n))
    (λ page n well. cell_in (seen page.trees) n passes says (sight_of (seen page.trees) n) refl)
    (kept Table cell_tells (both_told Table alone table_sight (alone_told Table) table_told) (λ address told. said_by_table passes says told))

pub references_local : IsLocal headers_refer_to_cells_info headers_refer_to_cells
references_local =
    by_rows headers_refer_to_cells_info headers_refer_to_cells refl headers_target judges_references (kept_in_table (has attribute.Headers) headers_verdict)

pub headers_local : IsLocal header_has_cells_info header_has_cells
headers_local = by_rows header_has_cells_info header_has_cells refl header_target judges_headers (kept_in_table (is_html (codes "th")) header_verdict)
