-- A row has no fault by itself exactly where it keeps the limits.
use Rattle.std.proofs.Common.{◌≡◌, ◌==◌, ◌↔◌, List, [], ◌∷◌, length, map, Bool, true, false, ◌||◌, Some, None, refl, ◌∙◌, ap, arith, nat_lt}
use Rattle.std.proofs.lemmas.Bool.{or_parts}
use Rattle.std.proofs.lemmas.Bool.Decides.{nat_tests}
use Rattle.std.specs.List.{list_any, AllByRecursion, IsDistinct}
use Rattle.snap_tree.specs.declared.fault.TreeFault.TheVariants.{TooManyAttrs, TextTooLong, DoubleAttr, EmptyName}
use Rattle.snap_tree.specs.declared.row.Attr.{Attr}
use Rattle.snap_tree.specs.declared.row.Body.{Body}
use Rattle.snap_tree.specs.declared.row.Body.TheVariants.{Element, Words}
use Rattle.snap_tree.specs.declared.row.Row.{Row}
use Rattle.snap_tree.specs.Rows.{attrs_in, attrs_of, is_long, is_empty, has_long, has_double, has_empty, own_fault}
use Rattle.texts.specs.Words.{same_folded}
use Rattle.snap_tree.specs.WellRow.{IsWellAttr, IsWellBody, IsWellRow}
use Rattle.snap_tree.specs.declared.limits.TheConstants.{MOST_ATTRS}

-- the tests of a body by which it has no fault
record Passes (b : Body) : Type 0 where
  few : nat_lt MOST_ATTRS (length (attrs_in b)) ≡ false
  short : has_long b ≡ false
  differ : has_double (attrs_in b) ≡ false
  named : has_empty b ≡ false

-- ---- names and attributes

passed_attrs : (attrs : List Attr) → list_any (λ a. is_long a.name || is_long a.value) attrs ≡ false → list_any (λ a. is_empty a.name) attrs ≡ false → AllByRecursion IsWellAttr attrs
passed_attrs [] l e = tt
passed_attrs (a ∷ attrs) l e =
    let long = or_parts (is_long a.name || is_long a.value) _ l in
    let own = or_parts (is_long a.name) (is_long a.value) long.0 in
    let some = or_parts (is_empty a.name) _ e in
    let well : IsWellAttr a = record { named = record { filled = grind (arith, nat_tests, some.0); short = grind (arith, nat_tests, own.0) }; short = grind (arith, nat_tests, own.1) } in
    (well, passed_attrs attrs long.1 some.1)

no_long : (attrs : List Attr) → AllByRecursion IsWellAttr attrs → list_any (λ a. is_long a.name || is_long a.value) attrs ≡ false
no_long [] h = refl
no_long (a ∷ attrs) h =
    let name : is_long a.name ≡ false = grind (arith, nat_tests, h.0.named.short) in
    let value : is_long a.value ≡ false = grind (arith, nat_tests, h.0.short) in
    rw (name, value) (no_long attrs h.1)

no_empty : (attrs : List Attr) → AllByRecursion IsWellAttr attrs → list_any (λ a. is_empty a.name) attrs ≡ false
no_empty [] h = refl
no_empty (a ∷ attrs) h =
    let name : is_empty a.name ≡ false = grind (arith, nat_tests, h.0.named.filled) in
    rw name (no_empty attrs h.1)

other_names : (a : Attr) (attrs : List Attr) → list_any (λ b. same_folded a.name b.name) attrs ≡ false → AllByRecursion (λ name. same_folded a.name name ≡ false) (map (λ b. b.name) attrs)
other_names a [] h = tt
other_names a (b ∷ attrs) h = let both = or_parts (same_folded a.name b.name) _ h in (both.0, other_names a attrs both.1)

no_other : (a : Attr) (attrs : List Attr) → AllByRecursion (λ name. same_folded a.name name ≡ false) (map (λ b. b.name) attrs) → list_any (λ b. same_folded a.name b.name) attrs ≡ false
no_other a [] h = refl
no_other a (b ∷ attrs) h = ap (λ c. c || list_any (λ b. same_folded a.name b.name) attrs) h.0 ∙ no_other a attrs h.1

names_differ : (attrs : List Attr) → has_double attrs ≡ false → IsDistinct same_folded (map (λ a. a.name) attrs)
unfolding IsDistinct
names_differ [] h = tt
names_differ (a ∷ attrs) h = let both = or_parts (list_any (λ b. same_folded a.name b.name) attrs) _ h in (other_names a attrs both.0, names_differ attrs both.1)

no_double : (attrs : List Attr) → IsDistinct same_folded (map (λ a. a.name) attrs) → has_double attrs ≡ false
unfolding IsDistinct
no_double [] h = refl
no_double (a ∷ attrs) h = ap (λ c. c || has_double attrs) (no_other a attrs h.0) ∙ no_double attrs h.1

-- ---- bodies

passed_body : (b : Body) → Passes b → IsWellBody b
passed_body (Element space tag attrs) p =
    let long = or_parts (is_long tag) _ p.short in
    let some = or_parts (is_empty tag) _ p.named in
    record {
      named = record { filled = grind (arith, nat_tests, some.0); short = grind (arith, nat_tests, long.0) };
      few = grind (arith, nat_tests, p.few);
      each_well = passed_attrs attrs long.1 some.1;
      differ = names_differ attrs p.differ;
    }
passed_body (Words text) p = grind (arith, nat_tests, p.short)

body_passes : (b : Body) → IsWellBody b → Passes b
body_passes (Element space tag attrs) h =
    let long : is_long tag ≡ false = grind (arith, nat_tests, h.named.short) in
    let some : is_empty tag ≡ false = grind (arith, nat_tests, h.named.filled) in
    record { few = grind (arith, nat_tests, h.few); short = rw long (no_long attrs h.each_well); differ = no_double attrs h.differ; named = rw some (no_empty attrs h.each_well) }
body_passes (Words text) h = record { few = refl; short = grind (arith, nat_tests); differ = refl; named = refl }

-- ---- rows

row_by : (r : Row) (a b c d : Bool) → nat_lt MOST_ATTRS (length (attrs_of r)) ≡ a → has_long r.body ≡ b → has_double (attrs_of r) ≡ c → (r.id.0 == 0 || has_empty r.body) ≡ d → own_fault r ≡ None → IsWellRow r
unfolding own_fault
row_by r true b c d ea eb ec ed h = let no : Some (TooManyAttrs r.id) ≡ None = rw ea at h in cc
row_by r false true c d ea eb ec ed h = let no : Some (TextTooLong r.id) ≡ None = rw (ea, eb) at h in cc
row_by r false false true d ea eb ec ed h = let no : Some (DoubleAttr r.id) ≡ None = rw (ea, eb, ec) at h in cc
row_by r false false false true ea eb ec ed h = let no : Some (EmptyName r.id) ≡ None = rw (ea, eb, ec, ed) at h in cc
row_by r false false false false ea eb ec ed h =
    let both = or_parts (r.id.0 == 0) (has_empty r.body) ed in
    record { numbered = grind (arith, nat_tests, both.0); body_well = passed_body r.body (record { few = ea; short = eb; differ = ec; named = both.1 }) }

pub well_row : (r : Row) → own_fault r ≡ None → IsWellRow r
well_row r h = row_by r _ _ _ _ refl refl refl refl h

pub sound_row : (r : Row) → IsWellRow r → own_fault r ≡ None
unfolding own_fault
sound_row r well =
    let p = body_passes r.body well.body_well in
    let numbered : (r.id.0 == 0) ≡ false = grind (arith, nat_tests, well.numbered) in
    rw (p.few, p.short, p.differ, numbered, p.named) refl

pub row_limits : (r : Row) → (own_fault r ≡ None) ↔ IsWellRow r
row_limits r = (well_row r, sound_row r)
