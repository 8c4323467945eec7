-- What a schema says of the columns of a row, and of two rows with one key.
use Rattle.std.proofs.Common.{◌≡◌, ◌⊎◌, inl, inr, ℕ, zero, suc, ◌+◌, ◌<◌, List, [], ◌∷◌, length, drop, Bool, true, false, not, Some, None, slice_get, IsTrue, refl, sym, ap, ap₂, subst, ◌∙◌, arith, true≢false, ◌&&◌, ◌||◌, Ordering, Less, Equal, Greater}
use Rattle.std.specs.Ordering.{is_ne}
use Rattle.std.specs.List.{AllByRecursion, list_any}
use Rattle.std.proofs.lemmas.Bool.{and_parts}
use Rattle.sqlite_value.specs.declared.value.Value.{Value}
use Rattle.sqlite_value.specs.declared.value.Value.TheVariants.{Null, Int, Real, Text, Blob}
use Rattle.sqlite_value.specs.Order.{Row, column, value_cmp}
use Rattle.sqlite_value.specs.declared.keys.Collation.TheVariants.{Binary}
use Rattle.sqlite_value.specs.Keys.{plain, first_key}
use Rattle.sqlite_value.proofs.KeyLemmas.{first_key-plain}
use Rattle.sqlite_trees.specs.Tree.{Trees, rowid}
use Rattle.sqlite_trees.specs.View.{is_int}
use Rattle.sqlite_sql.specs.Ops.{binary, is_true, is_null, from_truth}
use Rattle.sqlite_schema.specs.declared.schema.Column.{Column}
use Rattle.sqlite_schema.specs.declared.schema.Index.{Index}
use Rattle.sqlite_schema.specs.declared.schema.Table.{Table}
use Rattle.sqlite_schema.specs.declared.schema.Schema.{Schema}
use Rattle.sqlite_schema.specs.declared.schema.Constraint.TheVariants.{Datatype, NotNull, Unique}
use Rattle.sqlite_schema.specs.Rules.{suits, is_of, are_typed, are_present, equal, differ, agree, clashes, guards, Fits}
use Rattle.sqlite_rules.specs.Lists.{Has}
use Rattle.sqlite_rules.proofs.ListLemmas.{all_has, test_has, some_from}
use Rattle.sqlite_rules.proofs.RuleLemmas.{keeps_at}
use Rattle.sqlite_rules.proofs.PlaceLemmas.{Tied, tied_same}
use Rattle.sql_rows.specs.Tables.{name_at, same_name, leads, name_in, Rise}
use Rattle.sql_rows.specs.Keyed.{KeyKind, text, number, kind_in, IsKeyColumn, AreKeyColumns, places_from, IsNamedBy}
use Rattle.sql_rows.proofs.Letters.{IsOf, equal_letters}
use Rattle.sql_rows.proofs.Canon.{name_is}

-- ---- a column of a key has its kind of value

typed_at : (cs : List Column) (at : ℕ) (vs : Row) (k : ℕ) (c : Column) → are_typed None at cs vs ≡ true → slice_get cs k ≡ Some c → (suits c (column vs k) ≡ true) ⊎ (column vs k ≡ Null)
typed_at [] at vs k c h is = absurd cc
typed_at (d ∷ cs) at [] k c h is = inr refl
typed_at (d ∷ cs) at (v ∷ vs) zero c h is = let same : c ≡ d = cc in inl (ap (λ e. suits e v) same ∙ (and_parts _ _ h).0)
typed_at (d ∷ cs) at (v ∷ vs) (suc k) c h is = typed_at cs (at + 1) vs k c (and_parts _ _ h).1 is

opposite : (b : Bool) → not b ≡ true → b ≡ false
opposite true h = sym h
opposite false h = refl

present_at : (cs : List Column) (at : ℕ) (row : Row) (k : ℕ) (c : Column) → are_present None at cs row ≡ true → slice_get cs k ≡ Some c → c.not_null ≡ true → is_null (column row (at + k + 1)) ≡ false
present_at [] at row k c h is must = absurd cc
present_at (d ∷ cs) at row zero c h is must =
    let same : c ≡ d = cc in
    let must_d : d.not_null ≡ true = ap (λ (e : Column). e.not_null) (sym same) ∙ must in
    let whole : (not d.not_null || not (is_null (column row (at + 1)))) ≡ true = (and_parts _ _ h).0 in
    let here : not (is_null (column row (at + 1))) ≡ true = rw must_d at whole in
    let e : at + zero + 1 ≡ at + 1 = omega arith in
    ap (λ n. is_null (column row n)) e ∙ opposite (is_null (column row (at + 1))) here
present_at (d ∷ cs) at row (suc k) c h is must =
    let e : at + suc k + 1 ≡ (at + 1) + k + 1 = omega arith in
    ap (λ n. is_null (column row n)) e ∙ present_at cs (at + 1) row k c (and_parts _ _ h).1 is must

none_null : (cs : List Column) (at : ℕ) (row : Row) → are_present None at cs row ≡ true → AllByRecursion (λ (c : Column). c.not_null ≡ true) cs → (k : ℕ) → k < length cs → is_null (column row (at + k + 1)) ≡ false
none_null [] at row h must k less = absurd (omega (arith, less))
none_null (d ∷ cs) at row h must zero less = present_at (d ∷ cs) at row zero d h refl must.0
none_null (d ∷ cs) at row h must (suc k) less =
    let e : at + suc k + 1 ≡ (at + 1) + k + 1 = omega arith in
    ap (λ n. is_null (column row n)) e ∙ none_null cs (at + 1) row (and_parts _ _ h).1 must.1 k (omega (arith, less))

-- a row without NULL has as many columns as its table
exact : (cs : List Column) (at : ℕ) (vs : Row) → are_typed None at cs vs ≡ true → ((k : ℕ) → k < length cs → is_null (column vs k) ≡ false) → length vs ≡ length cs
exact [] at [] h some = refl
exact [] at (v ∷ vs) h some = absurd (true≢false (sym h))
exact (c ∷ cs) at [] h some = let less : 0 < length (c ∷ cs) = omega arith in absurd (true≢false (some 0 less))
exact (c ∷ cs) at (v ∷ vs) h some = ap suc (exact cs (at + 1) vs (and_parts _ _ h).1 (λ k less. some (suc k) (omega (arith, less))))

value_of : (k : KeyKind) (c : Column) (v : Value) → IsKeyColumn k c → suits c v ≡ true → is_null v ≡ false → IsOf k v
value_of k c v key fits some = by k v (rw (key.0, key.1) at fits) some
  where
    by : (k : KeyKind) (v : Value) → is_of (kind_in k) v ≡ true → is_null v ≡ false → IsOf k v
    by k Null fits some = absurd (true≢false some)
    by text (Int n) fits some = absurd (true≢false (sym fits))
    by text (Real x) fits some = absurd (true≢false (sym fits))
    by text (Text t) fits some = refl
    by text (Blob b) fits some = absurd (true≢false (sym fits))
    by number (Int n) fits some = refl
    by number (Real x) fits some = absurd (true≢false (sym fits))
    by number (Text t) fits some = absurd (true≢false (sym fits))
    by number (Blob b) fits some = absurd (true≢false (sym fits))

pub dropped : (row : Row) (k : ℕ) → column (drop 1 row) k ≡ column row (suc k)
dropped [] k = refl
dropped (v ∷ row) k = refl

-- the values of a key stand in a row from a place on
abbrev pub AreOf : ℕ → List KeyKind → Row → Type 0
AreOf at [] row = Rattle.std.specs.Prelude.⊤
AreOf at (k ∷ kinds) row = IsOf k (column row at) × AreOf (suc at) kinds row

module _ (schema : Schema) (db : Trees) (t : Table) (fits : Fits schema db) (listed : Has schema.tables t) (keyless : t.key ≡ None) (row : Row) (there : Has (db t.tree) row) where
  typed : are_typed None 0 t.columns (drop 1 row) ≡ true
  typed = subst (λ o. are_typed o 0 t.columns (drop 1 row) ≡ true) keyless (and_parts _ _ (keeps_at Datatype schema db t row (fits.rules Datatype (λ no. cc)) listed there)).0

  present : are_present None 0 t.columns row ≡ true
  present = subst (λ o. are_present o 0 t.columns row ≡ true) keyless (keeps_at NotNull schema db t row (fits.rules NotNull (λ no. cc)) listed there)

  -- it has as many columns as the table, where none may be NULL
  pub as_long : AllByRecursion (λ (c : Column). c.not_null ≡ true) t.columns → length (drop 1 row) ≡ length t.columns
  as_long must =
      exact t.columns 0 (drop 1 row) typed (λ k less.
      let from : 0 + k + 1 ≡ suc k = omega arith in
      ap is_null (dropped row k) ∙ subst (λ n. is_null (column row n) ≡ false) from (none_null t.columns 0 row present must k less))

  value_in : (k : ℕ) (kind : KeyKind) (c : Column) → slice_get t.columns k ≡ Some c → IsKeyColumn kind c → IsOf kind (column row (suc k))
  value_in k kind c is key =
      let one = typed_at t.columns 0 (drop 1 row) k c typed is in
      let from : 0 + k + 1 ≡ suc k = omega arith in
      let some = subst (λ n. is_null (column row n) ≡ false) from (present_at t.columns 0 row k c present is key.2) in
      value_of kind c (column row (suc k)) key (by one some) some
    where
      by : (suits c (column (drop 1 row) k) ≡ true) ⊎ (column (drop 1 row) k ≡ Null) → is_null (column row (suc k)) ≡ false → suits c (column row (suc k)) ≡ true
      by (inl h) some = ap (suits c) (sym (dropped row k)) ∙ h
      by (inr h) some = absurd (true≢false (ap is_null (sym (sym (dropped row k) ∙ h)) ∙ some))

  pub key_in : (kinds : List KeyKind) (at : ℕ) → AreKeyColumns at kinds t.columns → AreOf (suc at) kinds row
  key_in [] at h = tt
  key_in (k ∷ kinds) at h = (value_in at k h.0.0 h.0.1 h.0.2, key_in kinds (suc at) h.1)

-- ---- two rows have one key

abbrev pub same_keys : ℕ → List KeyKind → Row → Row → Bool
same_keys at [] r s = true
same_keys at (k ∷ kinds) r s = same_name (name_at at r) (name_at at s) && same_keys (suc at) kinds r s

pub plain_key : (first_key plain).collation ≡ Binary
plain_key = ap (λ k. k.collation) first_key-plain

pub agree_is : (kinds : List KeyKind) (at : ℕ) (r s : Row) → AreOf at kinds r → AreOf at kinds s → agree plain (places_from at kinds) r (places_from at kinds) s ≡ same_keys at kinds r s
agree_is [] at r s hr hs = refl
agree_is (k ∷ kinds) at r s hr hs =
    ap₂ (λ a b. a && b) (ap (λ c. equal c (column r at) (column s at)) plain_key ∙ equal_letters k (column r at) (column s at) hr.0 hs.0) (agree_is kinds (suc at) r s hr.1 hs.1)

-- rows of one group with one name
pub same_in_group : (kinds : List KeyKind) (group : List (List ℕ)) (at : ℕ) (r s : Row) → IsNamedBy kinds group → leads at group r ≡ true → leads at group s ≡ true → same_name (name_in at group r) (name_in at group s) ≡ true
    → same_keys at kinds r s ≡ true
same_in_group [] group at r s fit hr hs same = absurd fit
same_in_group (k ∷ []) [] at r s fit hr hs same = rw same refl
same_in_group (k ∷ l ∷ kinds) [] at r s fit hr hs same = absurd fit
same_in_group (k ∷ kinds) (n ∷ group) at r s fit hr hs same =
    let one = and_parts _ _ hr in
    let two = and_parts _ _ hs in
    let first : same_name (name_at at r) (name_at at s) ≡ true =
    ap (λ m. same_name m (name_at at s)) (sym (name_is n (name_at at r) one.0)) ∙ two.0 in
    ap₂ (λ a b. a && b) first (same_in_group kinds group (suc at) r s (rest kinds fit) one.1 two.1 same)
  where
    rest : (ks : List KeyKind) → IsNamedBy (k ∷ ks) (n ∷ group) → IsNamedBy ks group
    rest [] h = absurd h
    rest (l ∷ ks) h = h

-- ---- rows with one key are one row

said : (b : Bool) → is_true (from_truth (Some b)) ≡ b
said true = refl
said false = refl

not_differ : (a b : Value) → is_null a ≡ false → is_null b ≡ false → differ a b ≡ false → value_cmp a b ≡ Equal
unfolding binary
not_differ a b na nb h = by (value_cmp a b) (sym (said (is_ne (value_cmp a b))) ∙ rw (na, nb) at h)
  where
    by : (o : Ordering) → is_ne o ≡ false → o ≡ Equal
    by Less bad = absurd (true≢false bad)
    by Equal bad = refl
    by Greater bad = absurd (true≢false bad)

number_is_some : (v : Value) → IsTrue (Rattle.sqlite_trees.specs.View.is_int v) → is_null v ≡ false
number_is_some Null h = absurd (true≢false (sym h))
number_is_some (Int n) h = refl
number_is_some (Real x) h = refl
number_is_some (Text t) h = refl
number_is_some (Blob b) h = refl

pub one_row : (schema : Schema) (db : Trees) (t : Table) (i : Index) (r s : Row) → Fits schema db → Has schema.tables t → Has schema.indexes i → guards i t ≡ true → Rise (db t.tree) → Has (db t.tree) r → Has (db t.tree) s
    → agree i.order i.columns r i.columns s ≡ true → r ≡ s
one_row schema db t i r s fits listed indexed guarded rise hr hs agrees =
    let all = keeps_at Unique schema db t s (fits.rules Unique (λ no. cc)) listed hs in
    let this : not (guards i t && clashes i.order i.columns (db t.tree) s) ≡ true = test_has (λ j. not (guards j t && clashes j.order j.columns (db t.tree) s)) schema.indexes i all indexed in
    let quiet : clashes i.order i.columns (db t.tree) s ≡ false = opposite (clashes i.order i.columns (db t.tree) s) (rw guarded at this) in
    let apart : (agree i.order i.columns r i.columns s && differ (rowid r) (rowid s)) ≡ false = none (λ other. agree i.order i.columns other i.columns s && differ (rowid other) (rowid s)) (db t.tree) r hr quiet in
    let tie : Tied r s = not_differ (rowid r) (rowid s) (some r hr) (some s hs) (rw agrees at apart) in
    tied_same (db t.tree) r s rise.up hr hs tie
  where
    opposite : (b : Bool) → not b ≡ true → b ≡ false
    opposite true h = sym h
    opposite false h = refl

    some : (x : Row) → Has (db t.tree) x → is_null (rowid x) ≡ false
    some x h = number_is_some (rowid x) (Rattle.sqlite_rules.proofs.ListLemmas.all_has (λ y. IsTrue (Rattle.sqlite_trees.specs.View.is_int (rowid y))) (db t.tree) x rise.numbered h)

    none : (p : Row → Bool) (xs : List Row) (x : Row) → Has xs x → list_any p xs ≡ false → p x ≡ false
    none p xs x h quiet = by (p x) refl
      where
        by : (b : Bool) → p x ≡ b → p x ≡ false
        by true is = absurd (true≢false (sym (some_from p xs x h is) ∙ quiet))
        by false is = is
