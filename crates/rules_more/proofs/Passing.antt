-- Going over the page once, with the contexts carried down, gives the verdict on each node in document order.
use Rattle.std.proofs.Common.{◌≡◌, ℕ, List, [], ◌∷◌, ◌++◌, map, Bool, true, false, if◌then◌else◌, Option, Some, None, option_and_then, refl, sym, ◌∙◌, ap, append_assoc}
use Rattle.std.proofs.lemmas.List.Elements.{filter_map-append}
use Rattle.std.specs.List.{filter_map, cons_option}
use Rattle.std.specs.Option.{option_to_list, is_some}
use Rattle.aria_tables.specs.declared.role.Role.{Role}
use Rattle.aria_tables.specs.declared.role.Role.TheVariants.{RowRole}
use Rattle.snap_tree.specs.declared.row.NodeId.{NodeId}
use Rattle.snap_tree.specs.declared.row.Row.{Row}
use Rattle.snap_tree.specs.Spots.{spot}
use Rattle.snap_tree.specs.Trees.{Trees, empty, tree, Document, rows_of}
use Rattle.snap_tree.specs.Well.{IsWell}
use Rattle.acc_tree.specs.declared.above.Above.{Above}
use Rattle.acc_tree.specs.declared.attributes.Attribute.TheVariants as attribute
use Rattle.acc_tree.specs.Following.{rows_above}
use Rattle.acc_tree.specs.Frames.{nothing_above, above_of}
use Rattle.acc_tree.specs.Roles.{first_known, unless_conflicting}
use Rattle.acc_tree.specs.Seen.{seen_row, seen, attr, has}
use Rattle.acc_tree.specs.Sights.{sight_of}
use Rattle.acc_tree.proofs.Finding.{rows_seen}
use Rattle.texts.specs.Words.{words}
use Rattle.page_keys.specs.Standing.{spot_with, Stand, IsPage}
use Rattle.page_keys.proofs.Agreeing.{spot_sight}
use Rattle.page_keys.proofs.Pages.{page_seen}
use Rattle.page_keys.proofs.Stands.{all_stand}
use Rattle.rule_core.specs.declared.verdict.NodeVerdict.{NodeVerdict}
use Rattle.rule_core.specs.declared.verdict.Verdict.{Verdict}
use Rattle.rule_core.specs.Pages.{on_node, page_verdicts}
use Rattle.rule_sights.specs.Nodes.{if_row}
use Rattle.rules_more.specs.RequiredContext.{context, context_verdict, is_context_target, said_by_context, said_in_context, stands_in_context}
use Rattle.rules_more.specs.Contexts.{contexts_of, no_contexts, context_at, verdicts_in}
use Rattle.rules_more.proofs.Trailing.{spot_above}

-- ---- one node

-- the two contexts tell that of every role
context_is : (rows : List Row) (r : Role) → context_at (contexts_of rows) r ≡ context r rows
context_is rows RowRole = refl
context_is rows _ = refl

-- what is said of an explicit role, where the attribute may be absent
abbrev said_of_role : (Role → Option Role) → Above → Row → Option Role → Option Verdict
said_of_role contexts above row role =
    option_and_then (λ r. if is_context_target above row r then Some (context_verdict row r (contexts r)) else None) role

-- without the attribute there is no explicit role
unnamed : (contexts : Role → Option Role) (above : Above) (row : Row) (value : Option (List ℕ))
    → said_of_role contexts above row (unless_conflicting row (option_and_then (λ text. first_known (words text)) value))
    ≡ (if is_some value then said_of_role contexts above row (unless_conflicting row (option_and_then (λ text. first_known (words text)) value)) else None)
unnamed contexts above row None = refl
unnamed contexts above row (Some text) = refl

-- what the rule says of a node of a seen page
abbrev says_at : Trees → NodeId → Option Verdict
says_at t n = option_and_then (said_in_context t) (option_and_then (if_row (has attribute.RoleAttr)) (sight_of t n))

chosen : (b : Bool) (t : Trees) (above : List Row) (row : Row) (kids : Trees)
    → option_and_then (said_in_context t) (if b then Some (record { row = row; below = kids; above = above_of above }) else None)
    ≡ (if b then said_by_context (λ r. context r (rows_above t row.parent)) (above_of above) row else None)
chosen true t above row kids = refl
chosen false t above row kids = refl

here : (t : Trees) → IsPage t → (above : List Row) (row : Row) (kids : Trees) → spot t row.id ≡ Some (spot_with row kids above)
    → said_by_context (context_at (contexts_of above)) (above_of above) row ≡ says_at t row.id
here t page above row kids at =
    let rows : rows_above t row.parent ≡ above = spot_above t page.climbed row.id (spot_with row kids above) at in
    unnamed (context_at (contexts_of above)) (above_of above) row (attr attribute.RoleAttr row)
    ∙ (λ i. if has attribute.RoleAttr row then said_by_context (λ r. context_is above r i) (above_of above) row else None)
    ∙ (λ i. if has attribute.RoleAttr row then said_by_context (λ r. context r (sym rows i)) (above_of above) row else None)
    ∙ sym (chosen (has attribute.RoleAttr row) t above row kids)
    ∙ sym (ap (λ o. option_and_then (said_in_context t) (option_and_then (if_row (has attribute.RoleAttr)) o)) (spot_sight t row.id (spot_with row kids above) at))

-- ---- the page

abbrev gives : Trees → Row → Option NodeVerdict
gives t row = on_node row.id (says_at t row.id)

first_is : {X : Type 0} (o : Option X) (xs : List X) → option_to_list o ++ xs ≡ cons_option o xs
first_is None xs = refl
first_is (Some x) xs = refl

passed_in : (t : Trees) → IsPage t → (above : List Row) (part : Trees) → Stand t above part
    → verdicts_in (above_of above) (contexts_of above) part ≡ filter_map (gives t) (rows_of part)
passed_in t page above empty at = refl
passed_in t page above (tree row kids after) at =
    let down = passed_in t page (row ∷ above) kids at.1.0 in
    let on = passed_in t page above after at.1.1 in
    (λ i. (option_to_list (on_node row.id (here t page above row kids at.0 i)) ++ down i) ++ on i)
    ∙ append_assoc (option_to_list (gives t row)) (filter_map (gives t) (rows_of kids)) (filter_map (gives t) (rows_of after))
    ∙ ap (λ xs. option_to_list (gives t row) ++ xs) (sym (filter_map-append (gives t) (rows_of kids) (rows_of after)))
    ∙ first_is (gives t row) (filter_map (gives t) (rows_of kids ++ rows_of after))

by_number : (says : NodeId → Option NodeVerdict) (rows : List Row) → filter_map (λ row. says row.id) (map seen_row rows) ≡ filter_map (λ row. says row.id) rows
by_number says [] = refl
by_number says (row ∷ rows) = ap (cons_option (says row.id)) (by_number says rows)

pub page_passed : (page : Document) → IsWell page.trees → verdicts_in nothing_above no_contexts (seen page.trees) ≡ page_verdicts stands_in_context page
page_passed page well =
    let t : Trees = seen page.trees in
    let is : IsPage t = page_seen page.trees well in
    passed_in t is [] t (all_stand t is.apart) ∙ ap (filter_map (gives t)) (rows_seen page.trees)
    ∙ by_number (λ n. on_node n (says_at t n)) (rows_of page.trees)
