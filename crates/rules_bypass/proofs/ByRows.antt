-- The nodes of a page that count are found by its rows, most of which tell alone that they don't.
use Rattle.std.proofs.Common.{◌≡◌, ℕ, List, [], ◌∷◌, ◌++◌, map, ◌&&◌, ◌||◌, Bool, true, false, if◌then◌else◌, Option, Some, None, option_map, option_and_then, append_assoc, refl, sym, ap, ◌∙◌}
use Rattle.std.specs.List.{flat_map}
use Rattle.std.specs.Option.{option_or, option_map_or}
use Rattle.aria_tables.specs.declared.attr.AriaAttr.TheVariants as aria
use Rattle.aria_tables.specs.declared.role.Role.{Role}
use Rattle.aria_tables.specs.declared.role.Role.TheVariants as role
use Rattle.snap_tree.specs.declared.row.NodeId.{NodeId}
use Rattle.snap_tree.specs.declared.row.Row.{Row}
use Rattle.snap_tree.specs.SpotLaws.{NamesFirstAbove}
use Rattle.snap_tree.specs.Spots.{number_of}
use Rattle.snap_tree.specs.Trees.{Trees, empty, tree, rows_of}
use Rattle.snap_tree.specs.Well.{IsWell}
use Rattle.acc_tree.specs.declared.above.Above.{Above}
use Rattle.acc_tree.specs.declared.attributes.Attribute.TheVariants as attribute
use Rattle.acc_tree.specs.declared.tags.Tag.{Tag}
use Rattle.acc_tree.specs.declared.tags.Tag.TheVariants as tag
use Rattle.acc_tree.specs.Frames.{nothing_above, under, above_of}
use Rattle.acc_tree.specs.Inclusion.{included}
use Rattle.acc_tree.specs.Roles.{explicit, implicit, in_grid, role_at, tag_role}
use Rattle.acc_tree.specs.Seen.{attr, has, seen_row, seen}
use Rattle.acc_tree.specs.Sights.{above_children, summed}
use Rattle.acc_tree.specs.Tags.{html_tag}
use Rattle.acc_tree.proofs.Finding.{rows_seen}
use Rattle.acc_tree.proofs.Sighting.{sight_is_spot}
use Rattle.acc_name.specs.Names.{name_of}
use Rattle.rule_core.specs.Brief.{brief}
use Rattle.page_keys.specs.Standing.{Stand}
use Rattle.page_keys.proofs.Pages.{page_seen}
use Rattle.page_keys.proofs.Stands.{all_stand}
use Rattle.rules_bypass.specs.declared.bypass.Bypass.{Bypass}
use Rattle.rules_bypass.specs.declared.bypass.Bypass.TheVariants as bypass
use Rattle.rules_bypass.specs.Bypass.{collapses, heading_line, is_button, is_heading, is_link, is_mark, is_summary, landmark_line, leads_inside, line_at, line_in, lines, may_count, one, row_lines, skip_line, with_name}

-- ---- what is above a node may rule it out, and never makes it count

-- the question says no of the roles that depend on what is above, but for those of a page's header and footer
record SaysNo (p : Option Role → Bool) : Type 0 where
  generic : p (Some role.Generic) ≡ false
  item : p (Some role.Listitem) ≡ false
  gridcell : p (Some role.Gridcell) ≡ false
  cell : p (Some role.Cell) ≡ false

neither : (p : Option Role → Bool) (b : Bool) (x y : Role) → p (Some x) ≡ false → p (Some y) ≡ false → p (Some (if b then x else y)) ≡ false
neither p true x y h k = h
neither p false x y h k = k

no_tag : (p : Option Role → Bool) → SaysNo p → (above : Above) (row : Row) (t : Tag) → p (tag_role nothing_above row t) ≡ false → p (tag_role above row t) ≡ false
unfolding tag_role
no_tag p says above row tag.Footer h = neither p above.in_section role.Generic role.Contentinfo says.generic h
no_tag p says above row tag.Header h = neither p above.in_section role.Generic role.Banner says.generic h
no_tag p says above row tag.Li h = neither p above.in_list role.Listitem role.Generic says.item says.generic
no_tag p says above row tag.Td h = neither p (in_grid above) role.Gridcell role.Cell says.gridcell says.cell
no_tag p says above row _ h = h

no_implicit : (p : Option Role → Bool) → SaysNo p → (above : Above) (row : Row) (t : Option Tag) → p (option_and_then (tag_role nothing_above row) t) ≡ false → p (option_and_then (tag_role above row) t) ≡ false
no_implicit p says above row None h = h
no_implicit p says above row (Some t) h = no_tag p says above row t h

no_role_by : (p : Option Role → Bool) → SaysNo p → (above : Above) (row : Row) (r : Option Role) → p (option_or r (implicit nothing_above row)) ≡ false → p (option_or r (implicit above row)) ≡ false
no_role_by p says above row (Some r) h = h
no_role_by p says above row None h = no_implicit p says above row (html_tag row) h

no_role : (p : Option Role → Bool) → SaysNo p → (above : Above) (row : Row) → p (role_at nothing_above row) ≡ false → p (role_at above row) ≡ false
no_role p says above row h = no_role_by p says above row (explicit row) h

-- ---- none of the four

no_heading : (above : Above) (row : Row) → is_heading (role_at nothing_above row) ≡ false → is_heading (role_at above row) ≡ false
no_heading above row h = no_role is_heading (record { generic = refl; item = refl; gridcell = refl; cell = refl }) above row h

no_mark : (above : Above) (row : Row) → is_mark (role_at nothing_above row) ≡ false → is_mark (role_at above row) ≡ false
no_mark above row h = no_role is_mark (record { generic = refl; item = refl; gridcell = refl; cell = refl }) above row h

no_link : (above : Above) (row : Row) → is_link (role_at nothing_above row) ≡ false → is_link (role_at above row) ≡ false
no_link above row h = no_role is_link (record { generic = refl; item = refl; gridcell = refl; cell = refl }) above row h

no_button : (above : Above) (row : Row) → is_button (role_at nothing_above row) ≡ false → is_button (role_at above row) ≡ false
no_button above row h = no_role is_button (record { generic = refl; item = refl; gridcell = refl; cell = refl }) above row h

unmarked : (i : Bool) (r : Option Role) (name : List ℕ) → is_mark r ≡ false → landmark_line i r name ≡ None
unmarked i None name h = refl
unmarked i (Some r) name h = rw h refl

either : {A : Type 0} (b : Bool) (a : A) → (if b then a else a) ≡ a
either true a = refl
either false a = refl

-- a link that leads nowhere inside is none, and what is no link where nothing is above it is none either
no_skip : (t : Trees) (name : List ℕ) (stops is may_be is_included : Bool) (o : Option (List ℕ)) → (may_be ≡ false → is ≡ false) → stops && option_map_or (leads_inside t) o false && may_be ≡ false
    → (if stops && is && is_included then option_and_then (skip_line t name) o else None) ≡ None
no_skip t name false is may_be is_included o only h = refl
no_skip t name true is may_be is_included None only h = either (is && is_included) None
no_skip t name true is may_be is_included (Some href) only h = by_address (leads_inside t href) refl h
  where
    by_address : (b : Bool) → leads_inside t href ≡ b → b && may_be ≡ false → (if is && is_included then skip_line t name href else None) ≡ None
    by_address true e k = ap (λ c. if c && is_included then skip_line t name href else None) (only k)
    by_address false e k = ap (λ c. if is && is_included then (if c then Some (with_name href name) else None) else None) e ∙ either (is && is_included) None

either_not : (summary is may_be says : Bool) → (may_be ≡ false → is ≡ false) → summary || (may_be && says) ≡ false → summary || (is && says) ≡ false
either_not true is may_be says only h = h
either_not false is false says only h = ap (λ c. c && says) (only refl)
either_not false true true says only h = h
either_not false false true says only h = refl

no_collapse : (above : Above) (row : Row) → collapses nothing_above row ≡ false → collapses above row ≡ false
no_collapse above row h =
    either_not (is_summary (html_tag row)) (is_button (role_at above row)) (is_button (role_at nothing_above row)) (has (attribute.Aria aria.Expanded) row) (no_button above row) h

no_stop : (stops is may_be is_included : Bool) (line : List ℕ) → (may_be ≡ false → is ≡ false) → stops && may_be ≡ false → (if stops && is && is_included then Some line else None) ≡ None
no_stop false is may_be is_included line only h = refl
no_stop true is may_be is_included line only h = ap (λ c. if c && is_included then Some line else None) (only h)

no_line : (b : Bypass) (t : Trees) (above : Above) (row : Row) → may_count b t row ≡ false → line_at b t above row ≡ None
no_line bypass.Heading t above row h =
    ap (λ c. if c && included above row then heading_line (name_of t row.id).text else None) (no_heading above row h)
no_line bypass.Landmark t above row h = unmarked (included above row) (role_at above row) (name_of t row.id).text (no_mark above row h)
no_line bypass.SkipLink t above row h =
    no_skip t (name_of t row.id).text row.facts.tabbable (is_link (role_at above row)) (is_link (role_at nothing_above row)) (included above row) (attr attribute.Href row) (no_link above row) h
no_line bypass.Collapse t above row h =
    no_stop row.facts.tabbable (collapses above row) (collapses nothing_above row) (included above row) (brief (name_of t row.id).text) (no_collapse above row) h

-- a node that can't count by its row has no line
pub passed_over : (b : Bypass) (t : Trees) (row : Row) → may_count b t row ≡ false → None ≡ line_in b t row
passed_over b t row h = sym (no_line b t (above_children t row.parent) row h)

-- ---- one row after another

abbrev lines_at : Bypass → Trees → Row → List (List ℕ)
lines_at b t row = one (line_in b t row)

flat_more : {X A : Type 0} (f : X → List A) (xs ys : List X) → flat_map f (xs ++ ys) ≡ flat_map f xs ++ flat_map f ys
flat_more f [] ys = refl
flat_more f (x ∷ xs) ys = ap (λ l. f x ++ l) (flat_more f xs ys) ∙ sym (append_assoc (f x) (flat_map f xs) (flat_map f ys))

flat_mapped : {X Y A : Type 0} (f : Y → List A) (g : X → Y) (xs : List X) → flat_map f (map g xs) ≡ flat_map (λ x. f (g x)) xs
flat_mapped f g [] = refl
flat_mapped f g (x ∷ xs) = ap (λ l. f (g x) ++ l) (flat_mapped f g xs)

-- the lines of trees that stand below these nodes
lines_in : (b : Bypass) (t : Trees) → ((n : NodeId) → NamesFirstAbove t n) → (above : List Row) → above_children t (number_of above) ≡ above_of above → (part : Trees) → Stand t above part
    → lines b t (above_of above) part ≡ flat_map (lines_at b t) (rows_of part)
lines_in b t named above sums empty stand = refl
lines_in b t named above sums (tree row kids after) stand =
    let f = lines_at b t in
    let here : row.parent ≡ number_of above = rw stand.0 at (named row.id) in
    let same : above_children t row.parent ≡ above_of above = ap (above_children t) here ∙ sums in
    let below : above_children t (Some row.id) ≡ under (above_of above) row = ap (λ o. option_map_or (λ s. under s.above s.row) o nothing_above) (sight_is_spot t row.id ∙ ap (option_map summed) stand.0) in
    ap (λ a. one (line_at b t a row) ++ lines b t (under (above_of above) row) kids ++ lines b t (above_of above) after) (sym same)
    ∙ ap (λ l. f row ++ l ++ lines b t (above_of above) after) (lines_in b t named (row ∷ above) below kids stand.1.0)
    ∙ ap (λ l. f row ++ flat_map f (rows_of kids) ++ l) (lines_in b t named above sums after stand.1.1)
    ∙ append_assoc (f row) (flat_map f (rows_of kids)) (flat_map f (rows_of after)) ∙ sym (ap (λ l. f row ++ l) (flat_more f (rows_of kids) (rows_of after)))

-- the lines of a page are those of its rows
pub page_lines : (b : Bypass) (t : Trees) → IsWell t → row_lines b (seen t) (rows_of t) ≡ lines b (seen t) nothing_above (seen t)
page_lines b t well =
    let page = page_seen t well in
    sym (lines_in b (seen t) page.climbed.named [] refl (seen t) (all_stand (seen t) page.apart) ∙ ap (flat_map (lines_at b (seen t))) (rows_seen t) ∙ flat_mapped (lines_at b (seen t)) seen_row (rows_of t))
