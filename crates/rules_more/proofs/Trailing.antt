-- The context of a node looks at what the class SelfOnly does: the frames of the nodes above it have their roles.
use Rattle.std.proofs.Common.{◌≡◌, List, [], ◌∷◌, true, false, Bool, Option, Some, None, option_map, option_and_then, if◌then◌else◌, refl, sym, ◌∙◌, ap}
use Rattle.std.specs.Option.{option_or, option_map_or}
use Rattle.aria_tables.specs.declared.role.Role.{Role}
use Rattle.snap_tree.specs.declared.row.NodeId.{NodeId}
use Rattle.snap_tree.specs.declared.row.Row.{Row}
use Rattle.snap_tree.specs.Spots.{Spot, spot, number_of, IsSpotOf, ClimbsBy}
use Rattle.snap_tree.specs.Trees.{Trees}
use Rattle.acc_tree.specs.declared.above.Above.{Above}
use Rattle.acc_tree.specs.declared.attributes.Attribute.TheVariants as attribute
use Rattle.acc_tree.specs.Following.{rows_above}
use Rattle.acc_tree.specs.Frames.{above_of}
use Rattle.acc_tree.specs.Roles.{role_at}
use Rattle.acc_tree.specs.Seen.{seen, has}
use Rattle.acc_tree.specs.Sights.{IsClimbed, Sight, sight_of}
use Rattle.page_keys.specs.Laws.{itself, alone}
use Rattle.page_keys.specs.Nodes.{self_keys}
use Rattle.page_keys.proofs.Again.{LooksAtPages, looks, itself_again}
use Rattle.page_keys.proofs.Agreeing.{self_parts, spot_sight, no_sight, not_there}
use Rattle.page_keys.proofs.Trails.{Trail, trail}
use Rattle.rule_core.specs.declared.info.Class.TheVariants.{SelfOnly}
use Rattle.rule_core.specs.declared.verdict.Verdict.{Verdict}
use Rattle.rule_core.specs.Reach.{class_keys}
use Rattle.rule_core.proofs.Targets.{IsKept}
use Rattle.rule_sights.specs.Nodes.{if_row}
use Rattle.rule_sights.specs.Telling.{Tells}
use Rattle.rule_sights.proofs.Resting.{kept, kept_as}
use Rattle.rule_sights.proofs.Told.{alone_told, both_told}
use Rattle.rules_more.specs.RequiredContext.{counting, nearest, said_by_context, said_in_context, stands_in_context}
use Rattle.rules_more.specs.RoleContexts.{passed_roles}

-- ---- the nodes above, by the parent's number

climbed_above : (t : Trees) (above : List Row) → ClimbsBy above t → rows_above t (number_of above) ≡ above
climbed_above t [] h = refl
climbed_above t (p ∷ above) h = by_spot (spot t p.id) refl h
  where
    by_spot : (o : Option Spot) → spot t p.id ≡ o → IsSpotOf p above o → rows_above t (Some p.id) ≡ p ∷ above
    by_spot None e is = absurd is
    by_spot (Some s) e is = ap (λ o. option_map_or (λ (s : Spot). s.row ∷ s.above) o []) e ∙ (λ i. is.0 i ∷ is.1 i)

pub spot_above : (t : Trees) → IsClimbed t → (n : NodeId) (s : Spot) → spot t n ≡ Some s → rows_above t s.row.parent ≡ s.above
spot_above t climbed n s e =
    let named : s.row.parent ≡ number_of s.above = rw e at (climbed.named n) in
    let climbs : ClimbsBy s.above t = rw e at (climbed.climbs n) in
    ap (rows_above t) named ∙ climbed_above t s.above climbs

-- ---- their roles

abbrev roles_of : List Row → List (Option Role)
roles_of [] = []
roles_of (row ∷ rows) = role_at (above_of rows) row ∷ roles_of rows

abbrev nearest_among : List Role → List (Option Role) → Option Role
nearest_among passed [] = None
nearest_among passed (r ∷ roles) = option_or (counting passed r) (nearest_among passed roles)

nearest_is : (passed : List Role) (rows : List Row) → nearest passed rows ≡ nearest_among passed (roles_of rows)
nearest_is passed [] = refl
nearest_is passed (row ∷ rows) = ap (option_or (counting passed (role_at (above_of rows) row))) (nearest_is passed rows)

abbrev roles_by : Trail → List (Option Role)
roles_by [] = []
roles_by (x ∷ xs) = x.1.role ∷ roles_by xs

roles_are : (rows : List Row) → roles_of rows ≡ roles_by (trail rows)
roles_are [] = refl
roles_are (row ∷ rows) = ap (λ roles. role_at (above_of rows) row ∷ roles) (roles_are rows)

-- the roles of the nodes above a node
abbrev roles_above : Trees → NodeId → List (Option Role)
roles_above t n = option_map_or (λ s. roles_of (rows_above t s.row.parent)) (sight_of t n) []

above_found : (t : Trees) → IsClimbed t → (n : NodeId) (s : Spot) → spot t n ≡ Some s → roles_above t n ≡ roles_by (trail s.above)
above_found t climbed n s e =
    ap (λ o. option_map_or (λ (s : Sight). roles_of (rows_above t s.row.parent)) o []) (spot_sight t n s e) ∙ ap roles_of (spot_above t climbed n s e) ∙ roles_are s.above

above_missing : (t : Trees) (n : NodeId) → spot t n ≡ None → roles_above t n ≡ []
above_missing t n e = ap (λ o. option_map_or (λ (s : Sight). roles_of (rows_above t s.row.parent)) o []) (no_sight t n e)

roles_same : LooksAtPages roles_above self_keys
roles_same old new po pn n k = by_spot (spot old n) refl
  where
    by_spot : (o : Option Spot) → spot old n ≡ o → roles_above old n ≡ roles_above new n
    by_spot None e = above_missing old n e ∙ sym (above_missing new n (not_there old new n e (self_parts old new n k).frame))
    by_spot (Some s) e =
        let z = itself_again old new po pn n s e k in
        above_found old po.climbed n s e ∙ ap roles_by z.way ∙ sym (above_found new pn.climbed n z.at z.found)

roles_told : Tells SelfOnly roles_above
unfolding class_keys
roles_told = looks roles_above self_keys roles_same

-- ---- what is said

abbrev all_tell : Trees → NodeId → (Option (Row × Above)) × List (Option Role)
all_tell t n = (alone t n, roles_above t n)

-- what is said of a row with this above it, by the roles above
abbrev said_by_roles : List (Option Role) → Row × Above → Option Verdict
said_by_roles roles x = if has attribute.RoleAttr x.0 then said_by_context (λ r. nearest_among (passed_roles r) roles) x.1 x.0 else None

said_in : (t : Trees) (o : Option Sight)
    → option_and_then (said_in_context t) (option_and_then (if_row (has attribute.RoleAttr)) o)
    ≡ option_and_then (said_by_roles (option_map_or (λ (s : Sight). roles_of (rows_above t s.row.parent)) o [])) (option_map itself o)
said_in t None = refl
said_in t (Some s) = by_role (has attribute.RoleAttr s.row)
  where
    by_role : (b : Bool) → option_and_then (said_in_context t) (if b then Some s else None)
        ≡ (if b then said_by_context (λ r. nearest_among (passed_roles r) (roles_of (rows_above t s.row.parent))) s.above s.row else None)
    by_role true = λ i. said_by_context (λ r. nearest_is (passed_roles r) (rows_above t s.row.parent) i) s.above s.row
    by_role false = refl

pub context_kept : IsKept SelfOnly stands_in_context
context_kept =
    kept_as SelfOnly stands_in_context (λ page n. option_and_then (said_by_roles (roles_above (seen page.trees) n)) (alone (seen page.trees) n))
    (λ page n well. said_in (seen page.trees) (sight_of (seen page.trees) n))
    (kept SelfOnly all_tell (both_told SelfOnly alone roles_above (alone_told SelfOnly) roles_told) (λ address told. option_and_then (said_by_roles told.1) told.0))
