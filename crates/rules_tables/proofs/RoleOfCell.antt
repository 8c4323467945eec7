-- The role of a cell depends on the nearest table alone.
use Rattle.std.proofs.Common.{◌≡◌, ℕ, List, codes, Bool, Option, None, true, false, cond, ◌||◌, Some, option_and_then, refl, sym, ap, ◌∙◌, ⊎_elim}
use Rattle.std.proofs.lemmas.Bool.{false≢true, or_cases}
use Rattle.std.proofs.lemmas.Slice.Eq.{bytes_eq-Decides}
use Rattle.std.specs.Option.{option_or, option_map_or}
use Rattle.std.specs.Str.{bytes_eq}
use Rattle.snap_tree.specs.declared.row.Body.{Body}
use Rattle.snap_tree.specs.declared.row.Body.TheVariants.{Element, Words}
use Rattle.snap_tree.specs.declared.row.Row.{Row}
use Rattle.snap_tree.specs.declared.row.Space.TheVariants.{Html, Svg, Other}
use Rattle.snap_tree.specs.Rows.{is_html, is_html_body}
use Rattle.texts.specs.Words.{folded, same_folded}
use Rattle.aria_tables.specs.declared.role.Role.{Role}
use Rattle.aria_tables.specs.declared.role.Role.TheVariants as role
use Rattle.acc_tree.specs.declared.above.Above.{Above}
use Rattle.acc_tree.specs.declared.above.TableAbove.{TableAbove}
use Rattle.acc_tree.specs.declared.tags.Tag.{Tag}
use Rattle.acc_tree.specs.declared.tags.Tag.TheVariants as tag
use Rattle.acc_tree.specs.Roles.{is_grid, explicit, heads_rows, tag_role, role_at}
use Rattle.acc_tree.specs.Tags.{known_tag, tag_word, html_tag}
use Rattle.rules_tables.specs.Assigned.{is_data_role}
use Rattle.rules_tables.specs.RoleLaws.{DependsOnTable, KeepsTable}
use Rattle.rules_tables.specs.Survey.{is_data_by, is_data}
use Rattle.rules_tables.specs.TableRows.{is_row_group, is_cell}
use Rattle.rules_tables.proofs.Nearest.{under_is}
use Rattle.rules_tables.proofs.Tagging.{same_known, tag_of}

-- ---- an element of one tag isn't of another

other_body : (a b : List ℕ) → same_folded b a ≡ false → (body : Body) → is_html_body a body ≡ true → is_html_body b body ≡ false
other_body a b differ (Element Html tag attrs) h = ap (λ w. bytes_eq (folded b) w) (sym ((bytes_eq-Decides (folded a) (folded tag)).0 h)) ∙ differ
other_body a b differ (Element Svg tag attrs) h = refl
other_body a b differ (Element Other tag attrs) h = refl
other_body a b differ (Words text) h = refl

no_table : (word : List ℕ) (row : Row) → same_folded (codes "table") word ≡ false → is_html word row ≡ true → is_html (codes "table") row ≡ false
no_table word row differ h = other_body word (codes "table") differ row.body h

group_no_table : (row : Row) → is_row_group row ≡ true → is_html (codes "table") row ≡ false
group_no_table row h =
    ⊎_elim (λ (x : is_html (codes "tbody") row ≡ true). no_table (codes "tbody") row refl x)
    (λ y. ⊎_elim (λ (x : is_html (codes "thead") row ≡ true). no_table (codes "thead") row refl x) (λ (x : is_html (codes "tfoot") row ≡ true). no_table (codes "tfoot") row refl x)
    (or_cases (is_html (codes "thead") row) (is_html (codes "tfoot") row) y))
    (or_cases (is_html (codes "tbody") row) (is_html (codes "thead") row || is_html (codes "tfoot") row) h)

pub keeps_table : (above : Above) (row : Row) → KeepsTable above row
keeps_table above row = (λ group. under_is above row false (group_no_table row group), λ line. under_is above row false (no_table (codes "tr") row refl line))

-- ---- the role of a cell

known_body : (word : List ℕ) (body : Body) → is_html_body word body ≡ true → tag_of body ≡ known_tag word
known_body word (Element Html tag attrs) h = sym (same_known word tag h)
known_body word (Element Svg tag attrs) h = absurd (false≢true h)
known_body word (Element Other tag attrs) h = absurd (false≢true h)
known_body word (Words text) h = absurd (false≢true h)

td_known : known_tag (codes "td") ≡ Some tag.Td
unfolding tag_word
td_known = refl

th_known : known_tag (codes "th") ≡ Some tag.Th
unfolding tag_word
th_known = refl

td_role : (a b : Above) (cell : Row) → a.table ≡ b.table → tag_role a cell tag.Td ≡ tag_role b cell tag.Td
unfolding tag_role
td_role a b cell e = ap (λ o. Some (cond (option_map_or (λ (t : TableAbove). is_grid t.role) o false) role.Gridcell role.Cell)) e

th_role : (a b : Above) (cell : Row) → tag_role a cell tag.Th ≡ tag_role b cell tag.Th
unfolding tag_role
th_role a b cell = refl

by_tag : (a b : Above) (cell : Row) (t : Tag) → html_tag cell ≡ Some t → tag_role a cell t ≡ tag_role b cell t → role_at a cell ≡ role_at b cell
by_tag a b cell t is same =
    ap (λ o. option_or (explicit cell) (option_and_then (tag_role a cell) o)) is ∙ ap (λ o. option_or (explicit cell) o) same ∙ sym (ap (λ o. option_or (explicit cell) (option_and_then (tag_role b cell) o)) is)

pub depends_on_table : (a b : Above) (cell : Row) → DependsOnTable a b cell
depends_on_table a b cell is e =
    ⊎_elim (λ (x : is_html (codes "td") cell ≡ true). by_tag a b cell tag.Td (known_body (codes "td") cell.body x ∙ td_known) (td_role a b cell e))
    (λ (x : is_html (codes "th") cell ≡ true). by_tag a b cell tag.Th (known_body (codes "th") cell.body x ∙ th_known) (th_role a b cell)) (or_cases (is_html (codes "td") cell) (is_html (codes "th") cell) is)

-- ---- data cells

td_data : (grid : Bool) → is_data_role (Some (cond grid role.Gridcell role.Cell)) ≡ true
td_data true = refl
td_data false = refl

th_no_data : (heads : Bool) → is_data_role (Some (cond heads role.Rowheader role.Columnheader)) ≡ false
th_no_data true = refl
th_no_data false = refl

td_is_data : (above : Above) (cell : Row) → is_data_role (tag_role above cell tag.Td) ≡ true
unfolding tag_role
td_is_data above cell = td_data (option_map_or (λ (t : TableAbove). is_grid t.role) above.table false)

th_is_none : (above : Above) (cell : Row) → is_data_role (tag_role above cell tag.Th) ≡ false
unfolding tag_role
th_is_none above cell = th_no_data (heads_rows cell)

by_words : (above : Above) (cell : Row) (o : Option Role) → is_html (codes "td") cell ≡ is_data_role (option_and_then (tag_role above cell) (html_tag cell))
    → is_data_by cell o ≡ is_data_role (option_or o (option_and_then (tag_role above cell) (html_tag cell)))
by_words above cell None h = h
by_words above cell (Some r) h = refl

implicit_data : (above : Above) (cell : Row) → is_cell cell ≡ true → is_html (codes "td") cell ≡ is_data_role (option_and_then (tag_role above cell) (html_tag cell))
implicit_data above cell is =
    ⊎_elim (λ (x : is_html (codes "td") cell ≡ true). x ∙ sym (ap (λ o. is_data_role (option_and_then (tag_role above cell) o)) (known_body (codes "td") cell.body x ∙ td_known) ∙ td_is_data above cell))
    (λ (x : is_html (codes "th") cell ≡ true). other_body (codes "th") (codes "td") refl cell.body x
    ∙ sym (ap (λ o. is_data_role (option_and_then (tag_role above cell) o)) (known_body (codes "th") cell.body x ∙ th_known) ∙ th_is_none above cell))
    (or_cases (is_html (codes "td") cell) (is_html (codes "th") cell) is)

-- of a cell the explicit role and the tag tell whether it is a data cell, whatever is above it
pub data_is : (above : Above) (cell : Row) → is_cell cell ≡ true → is_data cell ≡ is_data_role (role_at above cell)
data_is above cell is = by_words above cell (explicit cell) (implicit_data above cell is)
