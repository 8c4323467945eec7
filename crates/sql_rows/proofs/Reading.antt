-- What the reading statements show of a keyed table of a store.
use Rattle.std.proofs.Common.{◌≡◌, ℕ, suc, ◌+◌, List, [], ◌∷◌, ◌++◌, map, drop, filter, get_or, true, false, Option, Some, None, refl, sym, ap, ap₂, subst, subst₂, ◌∙◌, arith}
use Rattle.std.specs.Prelude.{IsPermutation, IsSorted, option_map}
use Rattle.std.specs.Option.{option_to_list}
use Rattle.std.specs.Ordering.{is_lt, ordering_then}
use Rattle.std.specs.declared.cmp.Ordering.TheVariants.{Equal}
use Rattle.std.specs.List.{IsDistinct}
use Rattle.std.proofs.lemmas.Bool.{and_parts}
use Rattle.std.proofs.lemmas.List.Sorted.{IsPermutation-map}
use Rattle.sqlite_value.specs.declared.value.Value.{Value}
use Rattle.sqlite_value.specs.declared.value.Value.TheVariants.{Null}
use Rattle.sqlite_value.specs.declared.keys.Key.{Key}
use Rattle.sqlite_value.specs.Order.{Row, column}
use Rattle.sqlite_value.specs.Keys.{by_key}
use Rattle.sqlite_value.proofs.OrderLemmas.{then-Equal}
use Rattle.sqlite_trees.specs.Tree.{Trees}
use Rattle.sqlite_sql.specs.Term.{eval_all}
use Rattle.sqlite_sql.specs.Query.{Output, output, output_cmp, key_cmp, IsAnswer}
use Rattle.sqlite_schema.specs.Rules.{agree, Fits}
use Rattle.sqlite_schema.specs.declared.schema.Table.{Table}
use Rattle.sqlite_schema.specs.declared.schema.Schema.{Schema}
use Rattle.sqlite_schema.specs.declared.command.Command.TheVariants.{Select}
use Rattle.sqlite_rules.specs.Lists.{Has}
use Rattle.sqlite_rules.proofs.ListLemmas.{has_filtered}
use Rattle.sqlite_rules.proofs.ProbeLemmas.{has_mapped}
use Rattle.sqlite.specs.Listing.{understood, reads_listing}
use Rattle.sqlite.specs.Program.{overlay}
use Rattle.sqlite.specs.State.{State, Shown, IsUnchanged}
use Rattle.sqlite.proofs.Callers.{IsPlain, command_of, reads_as}
use Rattle.named_rows.specs.ByName.{names_cmp, at}
use Rattle.named_rows.proofs.Names.{tied_name}
use Rattle.sql_rows.specs.InOrder.{in_order}
use Rattle.sql_rows.specs.Tables.{kept, name_at, same_name, leads, name_in, is_row, rows_of, Rise}
use Rattle.sql_rows.specs.Keyed.{KeyKind, IsNamedBy, IsKeyed}
use Rattle.sql_rows.specs.Queries.{simple, wheres, sorts, shows, cells_at, AreGiven, BeginWithTexts}
use Rattle.sql_rows.specs.Stores.{IsStore}
use Rattle.sql_rows.proofs.Canon.{name_is, is_named, last_or, at_in_order}
use Rattle.sql_rows.proofs.Groups.{name_behind, leads_key, kept_group, is_row_behind}
use Rattle.sql_rows.proofs.Kept.{shown_same}
use Rattle.sql_rows.proofs.Letters.{cmp_letters}
use Rattle.sql_rows.proofs.Raw.{alike, twice, mapped, distinct_from}
use Rattle.sql_rows.proofs.Selects.{passes, passes_group, alone, gives, map_map}
use Rattle.sql_rows.proofs.Sorting.{AreDistinct, all_of_had, had_by_permutation, sorted_is, shown_in_order, at_most_one}
use Rattle.sql_rows.proofs.Typed.{AreOf, key_in, dropped, agree_is, same_in_group, one_row}
use Rattle.sql_rows.proofs.Writing.{fits_of, rise_of}

each_same : {X Y : Type 0} (f g : X → Y) → ((x : X) → f x ≡ g x) → (xs : List X) → map f xs ≡ map g xs
each_same f g same [] = refl
each_same f g same (x ∷ xs) = ap₂ (λ y ys. y ∷ ys) (same x) (each_same f g same xs)

last_map : {X Y : Type 0} (f : X → Y) (found : Option X) (xs : List X) → last_or (option_map f found) (map f xs) ≡ option_map f (last_or found xs)
last_map f found [] = refl
last_map f found (x ∷ xs) = last_map f (Some x) xs

-- ---- ORDER BY the key, among the rows of a group

-- what a row is sorted by
abbrev sorted_by : ℕ → List KeyKind → Row → Row → Row
sorted_by at kinds params r = eval_all (map (λ k. k.0) (sorts at kinds)) (params ∷ r ∷ [])

shifted : (keys : List Key) (i : ℕ) (v w : Value) (a b : Row) → key_cmp (suc i) keys (v ∷ a) (w ∷ b) ≡ key_cmp i keys a b
shifted [] i v w a b = refl
shifted (k ∷ keys) i v w a b = ap (ordering_then (by_key k (column a i) (column b i))) (shifted keys (suc i) v w a b)

sorted_name : (kinds : List KeyKind) (group : List (List ℕ)) (at : ℕ) (params r : Row) → IsNamedBy kinds group → name_in 0 group (sorted_by at kinds params r) ≡ name_in at group r
sorted_name [] group at params r fit = absurd fit
sorted_name (k ∷ []) [] at params r fit = refl
sorted_name (k ∷ l ∷ kinds) [] at params r fit = absurd fit
sorted_name (k ∷ []) (n ∷ group) at params r fit = absurd fit
sorted_name (k ∷ l ∷ kinds) (n ∷ group) at params r fit = sym (name_behind group 0 (sorted_by at (k ∷ l ∷ kinds) params r)) ∙ sorted_name (l ∷ kinds) group (suc at) params r fit

sorted_cmp : (kinds : List KeyKind) (group : List (List ℕ)) (at : ℕ) (params r s : Row) → IsNamedBy kinds group → AreOf at kinds r → AreOf at kinds s → leads at group r ≡ true → leads at group s ≡ true
    → key_cmp 0 (map (λ k. k.1) (sorts at kinds)) (sorted_by at kinds params r) (sorted_by at kinds params s) ≡ names_cmp (name_in at group r) (name_in at group s)
sorted_cmp [] group at params r s fit hr hs lr ls = absurd fit
sorted_cmp (k ∷ []) [] at params r s fit hr hs lr ls = ap (λ o. ordering_then o Equal) (cmp_letters k (column r at) (column s at) hr.0 hs.0) ∙ then-Equal (names_cmp (name_at at r) (name_at at s))
sorted_cmp (k ∷ l ∷ kinds) [] at params r s fit hr hs lr ls = absurd fit
sorted_cmp (k ∷ []) (n ∷ group) at params r s fit hr hs lr ls = absurd fit
sorted_cmp (k ∷ l ∷ kinds) (n ∷ group) at params r s fit hr hs lr ls =
    let one = and_parts _ _ lr in
    let two = and_parts _ _ ls in
    let tie : names_cmp (name_at at r) (name_at at s) ≡ Equal = tied_name (name_at at r) (name_at at s) (sym (name_is n (name_at at r) one.0) ∙ name_is n (name_at at s) two.0) in
    ap₂ ordering_then (cmp_letters k (column r at) (column s at) hr.0 hs.0 ∙ tie) (shifted (map (λ k. k.1) (sorts (suc at) (l ∷ kinds))) 0 (column r at) (column s at) (sorted_by (suc at) (l ∷ kinds) params r) (sorted_by (suc at) (l ∷ kinds) params s))
    ∙ sorted_cmp (l ∷ kinds) group (suc at) params r s fit hr.1 hs.1 one.1 two.1

shown_cells : (columns : List ℕ) (params r : Row) → eval_all (shows columns) (params ∷ r ∷ []) ≡ cells_at columns (drop 1 r)
shown_cells [] params r = refl
shown_cells (c ∷ columns) params r = ap₂ (λ v row. v ∷ row) (sym (dropped r c)) (shown_cells columns params r)

module _ (schema : Schema) (given : Table) (kinds : List KeyKind) (keyed : IsKeyed schema (record given { is_counted = false }) kinds) (db : Trees) (fits : Fits schema db) (rise : Rise (db given.tree)) where
  abbrev table : Table
  table = record given { is_counted = false }

  abbrev rows : List Row
  rows = db table.tree

  are : (r : Row) → Has rows r → AreOf 1 kinds r
  are r h = key_in schema db table fits keyed.listed keyed.keyless r h kinds 0 keyed.columns

  one : (group : List (List ℕ)) (r t : Row) → IsNamedBy kinds group → Has rows r → Has rows t → leads 1 group r ≡ true → leads 1 group t ≡ true → same_name (name_in 1 group r) (name_in 1 group t) ≡ true → r ≡ t
  one group r t fit hr ht lr lt same =
      one_row schema db table keyed.index r t fits keyed.listed keyed.indexed keyed.guarded rise hr ht
      (subst₂ (λ o p. agree o p r p t ≡ true) (sym keyed.order) (sym keyed.places) (agree_is kinds 1 r t (are r hr) (are t ht) ∙ same_in_group kinds group 1 r t fit lr lt same))

  -- the rows of a group
  pub lists : (group : List (List ℕ)) (columns : List ℕ) (params : Row) (shown : List Row) → IsNamedBy kinds group → BeginWithTexts group kinds → AreGiven 0 group params
      → IsAnswer (simple table.tree (wheres 1 0 group) (shows columns) (sorts 1 kinds)) db params shown → shown ≡ map (cells_at columns) (rows_of group (kept rows))
  lists group columns params shown fit texts bound answer =
      let terms = wheres 1 0 group in
      let q = simple table.tree terms (shows columns) (sorts 1 kinds) in
      let out = λ (r : Row). output q (params ∷ r ∷ []) in
      let first = λ (o : Output). o.1 in
      let named = λ (o : Output). name_in 0 group o.0 in
      let name = name_in 1 group in
      let found = filter (leads 1 group) rows in
      let g = gives table.tree terms (shows columns) (sorts 1 kinds) db params shown answer in
      let chosen : filter (passes terms params) rows ≡ found = alike _ _ rows (λ r h. passes_group group kinds 1 0 params r texts bound (are r h)) in
      let same = subst (λ l. IsPermutation (map out l) g.ordered) chosen g.same in
      let out_name = λ (r : Row). sorted_name kinds group 1 params r fit in
      let apart : AreDistinct named (map out found) =
      subst (IsDistinct same_name) (sym (map_map named out found ∙ each_same (λ r. named (out r)) name out_name found))
      (distinct_from rows (leads 1 group) name rise (λ r t hr ht pr pt e. one group r t fit hr ht pr pt e)) in
      let whence = λ (o : Output) (h : Has g.ordered o). has_mapped out found o (had_by_permutation (map out found) g.ordered o same h) in
      let sorted : IsSorted (λ (a b : Output). names_cmp (named a) (named b)) g.ordered = λ k d low lt.
      let a = get_or g.ordered (k + 1) d in
      let b = get_or g.ordered k d in
      let origins = all_of_had (λ (o : Output). (r : Row) × Has found r × (o ≡ out r)) g.ordered whence in
      ap is_lt (sym (of_outputs group params a b (origins (k + 1) d lt) (origins k d (omega arith)) fit columns)) ∙ g.sorted k d low lt in
      g.shown ∙ ap (map first) (sorted_is named (map out found) g.ordered same apart sorted ∙ sym (shown_in_order name named out out_name found)) ∙ map_map first out (in_order name found)
      ∙ each_same (λ r. first (out r)) (λ r. cells_at columns (drop 1 r)) (λ r. shown_cells columns params r) (in_order name found) ∙ sym (map_map (cells_at columns) (drop 1) (in_order name found))
      ∙ ap (map (cells_at columns)) (shown_in_order name (name_in 0 group) (drop 1) (λ r. name_behind group 0 r) found ∙ ap (in_order (name_in 0 group)) (sym (kept_group group rows)))
    where
      of_outputs : (group : List (List ℕ)) (params : Row) (a b : Output) → (r : Row) × Has (filter (leads 1 group) rows) r × (a ≡ output (simple table.tree (wheres 1 0 group) (shows columns) (sorts 1 kinds)) (params ∷ r ∷ []))
          → (r : Row) × Has (filter (leads 1 group) rows) r × (b ≡ output (simple table.tree (wheres 1 0 group) (shows columns) (sorts 1 kinds)) (params ∷ r ∷ [])) → IsNamedBy kinds group → (columns : List ℕ)
          → output_cmp (simple table.tree (wheres 1 0 group) (shows columns) (sorts 1 kinds)) a b ≡ names_cmp (name_in 0 group a.0) (name_in 0 group b.0)
      of_outputs group params a b (r, hr, ar) (t, ht, bt) fit columns =
          let x = has_filtered (leads 1 group) rows r hr in
          let y = has_filtered (leads 1 group) rows t ht in
          ap₂ (λ (u v : Output). key_cmp 0 (map (λ k. k.1) (sorts 1 kinds)) u.0 v.0) ar bt ∙ sorted_cmp kinds group 1 params r t fit (are r x.0) (are t y.0) x.1 y.1
          ∙ ap₂ names_cmp (sym (ap (λ (o : Output). name_in 0 group o.0) ar ∙ sorted_name kinds group 1 params r fit)) (sym (ap (λ (o : Output). name_in 0 group o.0) bt ∙ sorted_name kinds group 1 params t fit))

  -- the row of a name in a group, or none
  pub finds : (group : List (List ℕ)) (n : List ℕ) (columns : List ℕ) (params : Row) (shown : List Row) → IsNamedBy kinds group → BeginWithTexts (group ++ n ∷ []) kinds → AreGiven 0 (group ++ n ∷ []) params
      → IsAnswer (simple table.tree (wheres 1 0 (group ++ n ∷ [])) (shows columns) []) db params shown → shown ≡ option_to_list (option_map (cells_at columns) (at (name_in 0 group) n (rows_of group (kept rows))))
  finds group n columns params shown fit texts bound answer =
      let terms = wheres 1 0 (group ++ n ∷ []) in
      let q = simple table.tree terms (shows columns) [] in
      let out = λ (r : Row). output q (params ∷ r ∷ []) in
      let first = λ (o : Output). o.1 in
      let name = name_in 1 group in
      let found = filter (is_row 1 group n) rows in
      let g = gives table.tree terms (shows columns) [] db params shown answer in
      let chosen : filter (passes terms params) rows ≡ found = alike _ _ rows (λ r h. passes_group (group ++ n ∷ []) kinds 1 0 params r texts bound (are r h) ∙ leads_key group n 1 r) in
      let same = IsPermutation-map first (map out found) g.ordered (subst (λ l. IsPermutation (map out l) g.ordered) chosen g.same) in
      let cells : map first (map out found) ≡ map (λ r. cells_at columns (drop 1 r)) found = map_map first out found ∙ each_same (λ r. first (out r)) (λ r. cells_at columns (drop 1 r)) (λ r. shown_cells columns params r) found in
      let mine = λ (r : Row) (h : Has found r). and_parts _ _ (has_filtered (is_row 1 group n) rows r h).1 in
      let apart : AreDistinct name found = distinct_from rows (is_row 1 group n) name rise (λ r t hr ht pr pt e. one group r t fit hr ht (and_parts _ _ pr).0 (and_parts _ _ pt).0 e) in
      let got = at_most_one name (λ r. cells_at columns (drop 1 r)) n found shown apart (λ r h. name_is n (name r) (mine r h).1) (subst₂ (λ a b. IsPermutation a b) cells (sym g.shown) same) in
      let kept_found : filter (is_named (name_in 0 group) n) (filter (leads 0 group) (kept rows)) ≡ map (drop 1) found =
      twice (is_named (name_in 0 group) n) (leads 0 group) (kept rows) ∙ mapped (drop 1) (is_row 0 group n) rows ∙ ap (map (drop 1)) (alike _ _ rows (λ r _. is_row_behind group n r)) in
      got ∙ ap option_to_list (sym (ap (option_map (cells_at columns)) (at_in_order (name_in 0 group) n (filter (leads 0 group) (kept rows)) ∙ ap (last_or None) kept_found ∙ last_map (drop 1) None found) ∙ two (last_or None found) columns))
    where
      two : (o : Option Row) (columns : List ℕ) → option_map (cells_at columns) (option_map (drop 1) o) ≡ option_map (λ r. cells_at columns (drop 1 r)) o
      two None columns = refl
      two (Some r) columns = refl

-- ---- the statements

module _ (schema : Schema) (given : Table) (kinds : List KeyKind) (keyed : IsKeyed schema (record given { is_counted = false }) kinds) (old new : State) (store : IsStore schema old) (sql : List ℕ) (names : List (List ℕ)) (params : Row)
    (bare : IsPlain (understood schema sql)) (unlisted : reads_listing schema sql ≡ false) (own : overlay old.now.trees [] given.tree ≡ old.now.trees given.tree) (shown : List Row) where
  abbrev stored : List Row
  stored = kept (old.now.trees given.tree)

  pub shows_group : (group : List (List ℕ)) (columns : List ℕ) → IsNamedBy kinds group → BeginWithTexts group kinds → AreGiven 0 group params
      → command_of (understood schema sql) ≡ Select (record { lets = []; body = simple given.tree (wheres 1 0 group) (shows columns) (sorts 1 kinds) }) names → Shown sql params old new shown
      → (shown ≡ map (cells_at columns) (rows_of group stored)) × IsUnchanged old new
  shows_group group columns fit texts bound is h =
      let got = reads_as sql params old new schema store.schema_is _ is bare unlisted shown h in
      let answer : IsAnswer (simple given.tree (wheres 1 0 group) (shows columns) (sorts 1 kinds)) (overlay old.now.trees []) params shown = got.answer Null in (
        lists schema given kinds keyed old.now.trees (fits_of schema given kinds keyed old store) (rise_of schema given kinds keyed old store) group columns params shown fit texts bound
            (alone given.tree (wheres 1 0 group) (shows columns) (sorts 1 kinds) old.now.trees (overlay old.now.trees []) params shown own answer),
        shown_same sql params old new schema store.schema_is bare shown h,
      )

  pub shows_one : (group : List (List ℕ)) (n : List ℕ) (columns : List ℕ) → IsNamedBy kinds group → BeginWithTexts (group ++ n ∷ []) kinds → AreGiven 0 (group ++ n ∷ []) params
      → command_of (understood schema sql) ≡ Select (record { lets = []; body = simple given.tree (wheres 1 0 (group ++ n ∷ [])) (shows columns) [] }) names → Shown sql params old new shown
      → (shown ≡ option_to_list (option_map (cells_at columns) (at (name_in 0 group) n (rows_of group stored)))) × IsUnchanged old new
  shows_one group n columns fit texts bound is h =
      let got = reads_as sql params old new schema store.schema_is _ is bare unlisted shown h in
      let answer : IsAnswer (simple given.tree (wheres 1 0 (group ++ n ∷ [])) (shows columns) []) (overlay old.now.trees []) params shown = got.answer Null in (
        finds schema given kinds keyed old.now.trees (fits_of schema given kinds keyed old store) (rise_of schema given kinds keyed old store) group n columns params shown fit texts bound
            (alone given.tree (wheres 1 0 (group ++ n ∷ [])) (shows columns) [] old.now.trees (overlay old.now.trees []) params shown own answer),
        shown_same sql params old new schema store.schema_is bare shown h,
      )
