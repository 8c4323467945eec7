-- A node that stands on two pages.
use Rattle.std.proofs.Common.{◌≡◌, ◌&&◌, List, [], ◌∷◌, Bool, true, false, if◌then◌else◌, Option, Some, None, option_map, refl, sym, ◌∙◌, ap, rules}
use Rattle.std.proofs.lemmas.Slice.Eq.{bytes_eq-Decides}
use Rattle.std.specs.Cmp.{first_so, second_so, unsigned_Decides, booleans_Decides}
use Rattle.std.specs.Bool.{beq}
use Rattle.std.specs.Cmp.Lexicographic.{pointwise}
use Rattle.std.specs.Option.{option_eq}
use Rattle.std.specs.Str.{bytes_eq}
use denote.Enum.Bare.{sameb, same_true}
use Rattle.aria_tables.specs.declared.role.Role.{Role}
use Rattle.aria_tables.specs.contracts.role.Role as role
use Rattle.snap_tree.specs.contracts.row.Space as space
use Rattle.snap_tree.specs.declared.row.NodeId.{NodeId}
use Rattle.snap_tree.specs.declared.row.Row.{Row}
use Rattle.snap_tree.specs.declared.row.Body.{Body}
use Rattle.snap_tree.specs.declared.row.Body.TheVariants.{Element, Words}
use Rattle.snap_tree.specs.Rows.{attrs_in}
use Rattle.snap_tree.specs.Spots.{Spot, spot}
use Rattle.snap_tree.specs.Trees.{Trees}
use Rattle.acc_tree.specs.declared.above.Above.{Above}
use Rattle.acc_tree.specs.declared.above.TableAbove.{TableAbove}
use Rattle.acc_tree.specs.Frames.{frame, under, above_of, is_table}
use Rattle.acc_tree.specs.Sights.{Sight, sight_of, summed}
use Rattle.acc_tree.specs.Tags.{space_in, tag_in, html_tag}
use Rattle.page_keys.specs.Keys.{frame_key, own_key, own, text_in, root_numbers, frame_at}
use Rattle.page_keys.specs.Same.{same_node, same_frame, same_own}
use Rattle.page_keys.specs.Classes.{table_in}
use Rattle.page_keys.specs.Standing.{spot_with}
use Rattle.page_keys.proofs.Agreeing.{spot_sight, no_sight}
use Rattle.page_keys.proofs.Stands.{spot_number}
use Rattle.page_keys.proofs.Tests.{same_tells, agree}
use Rattle.page_changes.specs.Here.{frame_here, own_here, kids_here}
use Rattle.page_changes.specs.Beside.{same_table, same_above, AreTwins}
use Rattle.page_changes.proofs.Passing.{frame_is, own_is}

-- ---- tests of equality

option_is : {A : Type 0} (E : A → A → Bool) → ((a b : A) → E a b ≡ true → a ≡ b) → (a b : Option A) → option_eq E a b ≡ true → a ≡ b
option_is E each None None e = refl
option_is E each None (Some b) e = cc
option_is E each (Some a) None e = cc
option_is E each (Some a) (Some b) e = ap Some (each a b e)

node_is : (a b : NodeId) → same_node a b ≡ true → a ≡ b
node_is a b e = ap (λ k. record { 0 = k }) ((unsigned_Decides a.0 b.0).0 e)

role_is : (a b : Role) → sameb role.the_type a b ≡ true → a ≡ b
role_is a b e = same_true role.the_type (search rules) a b e

table_is : (a b : TableAbove) → same_table a b ≡ true → a ≡ b
table_is a b e =
    let n : a.node ≡ b.node = node_is a.node b.node (first_so (same_node a.node b.node) _ e) in
    let r : a.role ≡ b.role = option_is (sameb role.the_type) role_is a.role b.role (second_so (same_node a.node b.node) _ e) in
    λ i. record { node = n i; role = r i }

pub above_is : (a b : Above) → same_above a b ≡ true → a ≡ b
above_is a b e =
    let e1 = second_so (beq a.in_section b.in_section) _ e in
    let e2 = second_so (beq a.in_list b.in_list) _ e1 in
    let e3 = second_so (option_eq same_table a.table b.table) _ e2 in
    let e4 = second_so (option_eq same_node a.label b.label) _ e3 in
    let section : a.in_section ≡ b.in_section = (booleans_Decides a.in_section b.in_section).0 (first_so _ _ e) in
    let list : a.in_list ≡ b.in_list = (booleans_Decides a.in_list b.in_list).0 (first_so _ _ e1) in
    let table : a.table ≡ b.table = option_is same_table table_is a.table b.table (first_so _ _ e2) in
    let label : a.label ≡ b.label = option_is same_node node_is a.label b.label (first_so _ _ e3) in
    let hidden : a.hidden ≡ b.hidden = (booleans_Decides a.hidden b.hidden).0 (first_so _ _ e4) in
    let disabled : a.disabled ≡ b.disabled = (booleans_Decides a.disabled b.disabled).0 (second_so (beq a.hidden b.hidden) _ e4) in
    λ i. record { in_section = section i; in_list = list i; table = table i; label = label i; hidden = hidden i; disabled = disabled i }

-- ---- equal rows

body_is : (b c : Body) → option_eq (sameb space.the_type) (space_in b) (space_in c) ≡ true → option_eq bytes_eq (tag_in b) (tag_in c) ≡ true → attrs_in b ≡ attrs_in c → text_in b ≡ text_in c → b ≡ c
body_is (Element s t xs) (Element z u ys) hs ht ha hx =
    let one : s ≡ z = same_true space.the_type (search rules) s z hs in
    let other : t ≡ u = (bytes_eq-Decides t u).0 ht in
    λ i. Element (one i) (other i) (ha i)
body_is (Element s t xs) (Words y) hs ht ha hx = cc
body_is (Words x) (Element z u ys) hs ht ha hx = cc
body_is (Words x) (Words y) hs ht ha hx = let text : x ≡ y = cc in ap Words text

abbrev pub shape : Row → Row → Bool
shape a b = option_eq same_node a.parent b.parent && (option_eq (sameb space.the_type) (space_in a.body) (space_in b.body) && option_eq bytes_eq (tag_in a.body) (tag_in b.body))

rows_same : (a b : Row) → a.id ≡ b.id → own a ≡ own b → shape a b ≡ true → a ≡ b
rows_same a b ids o e =
    let rest = second_so (option_eq same_node a.parent b.parent) _ e in
    let parent : a.parent ≡ b.parent = option_is same_node node_is a.parent b.parent (first_so _ _ e) in
    let body : a.body ≡ b.body = body_is a.body b.body (first_so _ _ rest) (second_so (option_eq (sameb space.the_type) (space_in a.body) (space_in b.body)) _ rest) (ap (λ o. o.attrs) o) (ap (λ o. o.text) o) in
    let facts : a.facts ≡ b.facts = ap (λ o. o.facts) o in
    λ i. record { id = ids i; parent = parent i; body = body i; facts = facts i }

-- ---- a node on both pages

pub frame_there : (old new : Trees) (ups others : List Row) (row other : Row) (kids below : Trees) → AreTwins old new ups others row other kids below
    → same_frame (frame (above_of ups) row) (frame (above_of others) other) ≡ frame_here new (above_of ups) row
frame_there old new ups others row other kids below t =
    sym (ap (λ o. option_eq same_frame (Some (frame (above_of ups) row)) (option_map (λ (s : Sight). frame s.above s.row) o)) (spot_sight new row.id (spot_with other below others) t.there))

pub own_there : (old new : Trees) (ups others : List Row) (row other : Row) (kids below : Trees) → AreTwins old new ups others row other kids below
    → same_own (own row) (own other) ≡ own_here new row
own_there old new ups others row other kids below t =
    sym (ap (λ o. option_eq same_own (Some (own row)) (option_map (λ (s : Sight). own s.row) o)) (spot_sight new row.id (spot_with other below others) t.there))

pub kids_there : (old new : Trees) (ups others : List Row) (row other : Row) (kids below : Trees) → AreTwins old new ups others row other kids below
    → pointwise same_node (root_numbers kids) (root_numbers below) ≡ kids_here new row kids
kids_there old new ups others row other kids below t =
    sym (ap (λ o. option_eq (pointwise same_node) (Some (root_numbers kids)) (option_map (λ (s : Sight). root_numbers s.below) o)) (spot_sight new row.id (spot_with other below others) t.there))

-- under the same nodes, equal rows have the same frame
pub twins_alike : (old new : Trees) (ups others : List Row) (row other : Row) (kids below : Trees) → AreTwins old new ups others row other kids below → own_here new row ≡ true → shape row other ≡ true → above_of ups ≡ above_of others
    → (true ≡ frame_here new (above_of ups) row) × (above_of (row ∷ ups) ≡ above_of (other ∷ others))
twins_alike old new ups others row other kids below t o e a =
    let before = spot_sight old row.id (spot_with row kids ups) t.here in
    let after = spot_sight new row.id (spot_with other below others) t.there in
    let owns_agree = agree old new (own_key row.id) (sym (own_is old new row kids ups t.here) ∙ o) in
    let owns : Some (own row) ≡ Some (own other) = sym (ap (option_map (λ (s : Sight). own s.row)) before) ∙ owns_agree ∙ ap (option_map (λ (s : Sight). own s.row)) after in
    let own_same : own row ≡ own other = cc in
    let row_same : row ≡ other = rows_same row other (sym (spot_number row.id [] new (spot_with other below others) t.there)) own_same e in
    let frames : frame_at old row.id ≡ frame_at new row.id =
    ap (option_map (λ (s : Sight). frame s.above s.row)) before ∙ (λ i. Some (frame (a i) (row_same i))) ∙ sym (ap (option_map (λ (s : Sight). frame s.above s.row)) after) in
    (sym (frame_is old new row kids ups t.here ∙ (same_tells old new (frame_key row.id)).1 frames), λ i. under (a i) (row_same i))

-- ---- what is found at a number

pub sight_spot : (t : Trees) (n : NodeId) (s : Sight) → Some s ≡ sight_of t n → (z : Spot) × ((spot t n ≡ Some z) × (summed z ≡ s))
sight_spot t n s e = by_spot (spot t n) refl
  where
    by_spot : (o : Option Spot) → spot t n ≡ o → (z : Spot) × ((spot t n ≡ Some z) × (summed z ≡ s))
    by_spot None k = let none : sight_of t n ≡ None = no_sight t n k in cc
    by_spot (Some z) k =
        let some : sight_of t n ≡ Some (summed z) = spot_sight t n z k in
        let is : summed z ≡ s = cc in
        (z, (k, is))

-- ---- tables

pub table_here : (above : Above) (row : Row) → is_table (html_tag row) ≡ true → Some row.id ≡ table_in (under above row)
table_here above row e = sym (ap (λ b. option_map (λ (a : TableAbove). a.node) (if b then Some (record { node = row.id; role = (frame above row).role }) else above.table)) e)

pub table_past : (above : Above) (row : Row) → is_table (html_tag row) ≡ false → table_in above ≡ table_in (under above row)
table_past above row e = sym (ap (λ b. option_map (λ (a : TableAbove). a.node) (if b then Some (record { node = row.id; role = (frame above row).role }) else above.table)) e)
