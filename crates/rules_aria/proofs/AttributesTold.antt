-- The attributes of a well row differ in their names, so that each is the first of its name.
use Rattle.std.proofs.Common.{◌≡◌, ℕ, List, [], ◌∷◌, map, filter, Bool, true, false, cond, Option, Some, None, option_map, refl, sym, ◌∙◌, ap, subst}
use Rattle.std.specs.Cmp.Lexicographic.{bytes_decides}
use Rattle.std.specs.List.{AllByRecursion, IsDistinct, find}
use Rattle.std.specs.Str.{bytes_eq}
use Rattle.texts.specs.Words.{folded, same_folded}
use Rattle.aria_tables.specs.declared.attr.AriaAttr.{AriaAttr}
use Rattle.aria_tables.specs.Attributes.{name_of, attr_of, attributes}
use Rattle.snap_tree.specs.declared.row.Attr.{Attr}
use Rattle.snap_tree.specs.declared.row.Body.{Body}
use Rattle.snap_tree.specs.declared.row.Body.TheVariants.{Element, Words}
use Rattle.snap_tree.specs.declared.row.NodeId.{NodeId}
use Rattle.snap_tree.specs.declared.row.Row.{Row}
use Rattle.snap_tree.specs.Rows.{attrs_in, attrs_of, has_number, value_of}
use Rattle.snap_tree.specs.Spots.{Spot, spot}
use Rattle.snap_tree.specs.Trees.{Trees, rows_of}
use Rattle.snap_tree.specs.Well.{IsWell}
use Rattle.snap_tree.specs.WellRow.{IsWellBody, IsWellRow}
use Rattle.snap_tree.proofs.Spotting.{spot_row}
use Rattle.acc_tree.specs.declared.attributes.Attribute.TheVariants as attribute
use Rattle.acc_tree.specs.Attributes.{attribute_name, is_aria}
use Rattle.acc_tree.specs.Seen.{seen_row, seen, attr, aria_attrs}
use Rattle.acc_tree.specs.Sights.{Sight, sight_of, summed, seen_spot}
use Rattle.acc_tree.proofs.Seeing.{attr_seen, aria_attrs_seen}
use Rattle.acc_tree.proofs.Sighting.{sight_is_spot, seen_spot_is}

-- ---- lists

-- what holds of each holds of what is found
of_found : {A : Type 0} (P : A → Type 0) (test : A → Bool) (xs : List A) (x : A) → AllByRecursion P xs → find test xs ≡ Some x → P x
of_found P test [] x all e = cc
of_found P test (y ∷ xs) x all e = by_test (test y) e (of_found P test xs x all.1)
  where
    by_test : (b : Bool) → cond b (Some y) (find test xs) ≡ Some x → (find test xs ≡ Some x → P x) → P x
    by_test true h next = let is : y ≡ x = cc in subst P is all.0
    by_test false h next = next h

-- what is found passes the test
found_passes : {A : Type 0} (test : A → Bool) (xs : List A) (x : A) → find test xs ≡ Some x → test x ≡ true
found_passes test [] x e = cc
found_passes test (y ∷ xs) x e = by_test (test y) refl e (found_passes test xs x)
  where
    by_test : (b : Bool) → test y ≡ b → cond b (Some y) (find test xs) ≡ Some x → (find test xs ≡ Some x → test x ≡ true) → test x ≡ true
    by_test true h e next = let is : y ≡ x = cc in ap test (sym is) ∙ h
    by_test false h e next = next e

-- what holds of each holds of each that is kept
of_kept : {A : Type 0} (P : A → Type 0) (test : A → Bool) (xs : List A) → AllByRecursion P xs → AllByRecursion P (filter test xs)
of_kept P test [] all = tt
of_kept P test (x ∷ xs) all = by_test (test x) (of_kept P test xs all.1)
  where
    by_test : (b : Bool) → AllByRecursion P (filter test xs) → AllByRecursion P (cond b (x ∷ filter test xs) (filter test xs))
    by_test true rest = (all.0, rest)
    by_test false rest = rest

-- ---- attributes

-- by each name that is its own when folded, the attribute is found among these
abbrev IsFirst : List Attr → Attr → Type 0
IsFirst attrs a = (name : List ℕ) → same_folded a.name name ≡ true → value_of name attrs ≡ Some a.value

later_first : (a : Attr) (all attrs : List Attr) → AllByRecursion (λ other. same_folded a.name other ≡ false) (map (λ (b : Attr). b.name) attrs) → AllByRecursion (IsFirst all) attrs → AllByRecursion (IsFirst (a ∷ all)) attrs
later_first a all [] apart h = tt
later_first a all (b ∷ attrs) apart h = (
  λ name e.
      let other : same_folded a.name name ≡ false = ap (bytes_eq (folded a.name)) (sym ((bytes_decides (folded b.name) (folded name)).0 e)) ∙ apart.0 in
      ap (λ c. option_map (λ (a : Attr). a.value) (cond c (Some a) (find (λ a. same_folded a.name name) all))) other ∙ h.0 name e,
  later_first a all attrs apart.1 h.1,
)

each_first : (attrs : List Attr) → IsDistinct same_folded (map (λ (a : Attr). a.name) attrs) → AllByRecursion (IsFirst attrs) attrs
unfolding IsDistinct
each_first [] apart = tt
each_first (a ∷ attrs) apart = (
  λ name e. ap (λ c. option_map (λ (a : Attr). a.value) (cond c (Some a) (find (λ a. same_folded a.name name) attrs))) e,
  later_first a attrs attrs apart.0 (each_first attrs apart.1),
)

body_first : (b : Body) → IsWellBody b → AllByRecursion (IsFirst (attrs_in b)) (attrs_in b)
body_first (Element space tag attrs) well = each_first attrs well.differ
body_first (Words text) well = tt

-- ---- the row of a well page

-- what is seen of a node is what is seen of a well row
well_row : (t : Trees) → IsWell t → (n : NodeId) (s : Sight) → sight_of (seen t) n ≡ Some s → (r : Row) × (IsWellRow r × (s.row ≡ seen_row r))
well_row t well n s e = by_spot (spot t n) refl
  where
    by_spot : (o : Option Spot) → spot t n ≡ o → (r : Row) × (IsWellRow r × (s.row ≡ seen_row r))
    by_spot None h =
        let none : sight_of (seen t) n ≡ None = sight_is_spot (seen t) n ∙ ap (option_map summed) (seen_spot_is t n) ∙ ap (λ o. option_map summed (option_map seen_spot o)) h in cc
    by_spot (Some z) h =
        let some : sight_of (seen t) n ≡ Some (summed (seen_spot z)) =
        sight_is_spot (seen t) n ∙ ap (option_map summed) (seen_spot_is t n) ∙ ap (λ o. option_map summed (option_map seen_spot o)) h in
        let both : Some s ≡ Some (summed (seen_spot z)) = sym e ∙ some in
        let is : s ≡ summed (seen_spot z) = cc in
        let here : find (has_number n) (rows_of t) ≡ Some z.row = sym (spot_row n [] t) ∙ ap (option_map (λ (z : Spot). z.row)) h in
        (z.row, (of_found IsWellRow (has_number n) (rows_of t) z.row well.rows_well here, ap (λ (s : Sight). s.row) is))

-- the known attribute of this name has this value on the row
abbrev pub IsValue : Row → Attr → Type 0
IsValue row a = (known : AriaAttr) → attr_of a.name ≡ Some known → attr (attribute.Aria known) row ≡ Some a.value

-- each of these attributes has the value that its name finds
pub each_value : (r : Row) (attrs : List Attr) → AllByRecursion (IsFirst (attrs_of r)) attrs → AllByRecursion (IsValue (seen_row r)) attrs
unfolding attribute_name attr_of
each_value r [] all = tt
each_value r (a ∷ attrs) all = (
  λ known e. attr_seen (attribute.Aria known) r ∙ all.0 (name_of known) (found_passes (λ known. same_folded a.name (name_of known)) attributes known e),
  each_value r attrs all.1,
)

-- so has each ARIA attribute of a node of a well page
pub aria_values : (t : Trees) → IsWell t → (n : NodeId) (s : Sight) → sight_of (seen t) n ≡ Some s → AllByRecursion (IsValue s.row) (aria_attrs s.row)
aria_values t well n s e =
    let at = well_row t well n s e in
    let here : AllByRecursion (IsValue (seen_row at.0)) (aria_attrs at.0) =
    each_value at.0 (aria_attrs at.0) (of_kept (IsFirst (attrs_of at.0)) (λ a. is_aria a.name) (attrs_of at.0) (body_first at.0.body at.1.0.body_well)) in
    let seen_too : AllByRecursion (IsValue (seen_row at.0)) (aria_attrs (seen_row at.0)) = subst (AllByRecursion (IsValue (seen_row at.0))) (sym (aria_attrs_seen at.0)) here in
    subst (λ row. AllByRecursion (IsValue row) (aria_attrs row)) (sym at.1.1) seen_too
