-- What a query shows of a table whose key is two texts: the rows that have a name in the second one, in order of the first.
use Rattle.std.proofs.Common.{◌≡◌, ℕ, ◌+◌, List, [], ◌∷◌, map, drop, filter, get_or, true, false, refl, sym, ap, ap₂, subst, subst₂, ◌∙◌, arith}
use Rattle.std.specs.Prelude.{IsPermutation, IsSorted}
use Rattle.std.specs.Ordering.{is_lt, ordering_then}
use Rattle.std.specs.declared.cmp.Ordering.TheVariants.{Equal}
use Rattle.std.specs.List.{IsDistinct}
use Rattle.std.proofs.lemmas.Bool.{and_parts}
use Rattle.sqlite_value.specs.declared.value.Value.TheVariants.{Null}
use Rattle.sqlite_value.specs.Order.{Row, column}
use Rattle.sqlite_value.proofs.OrderLemmas.{then-Equal}
use Rattle.sqlite_trees.specs.Tree.{Trees}
use Rattle.sqlite_sql.specs.Term.{eval_all}
use Rattle.sqlite_sql.specs.Query.{Query, Output, output, output_cmp, key_cmp, IsAnswer}
use Rattle.sqlite_schema.specs.Rules.{agree, Fits}
use Rattle.sqlite_schema.specs.declared.schema.Table.{Table}
use Rattle.sqlite_schema.specs.declared.schema.Schema.{Schema}
use Rattle.sqlite_schema.specs.declared.command.Command.TheVariants.{Select}
use Rattle.sqlite_rules.specs.Lists.{Has}
use Rattle.sqlite_rules.proofs.ListLemmas.{has_filtered}
use Rattle.sqlite_rules.proofs.ProbeLemmas.{has_mapped}
use Rattle.sqlite.specs.Listing.{understood, reads_listing}
use Rattle.sqlite.specs.Program.{overlay}
use Rattle.sqlite.specs.State.{State, Shown, IsUnchanged}
use Rattle.sqlite.proofs.Callers.{IsPlain, command_of, reads_as}
use Rattle.named_rows.specs.ByName.{names_cmp}
use Rattle.sql_rows.specs.InOrder.{in_order}
use Rattle.sql_rows.specs.Tables.{kept, name_at, same_name, leads, Rise}
use Rattle.sql_rows.specs.Keyed.{KeyKind, IsKeyed, text}
use Rattle.sql_rows.specs.Queries.{simple, wheres, sorts, shows, cells_at, AreGiven}
use Rattle.sql_rows.specs.Stores.{IsStore}
use Rattle.sql_rows.proofs.Canon.{name_is, name_same}
use Rattle.sql_rows.proofs.Groups.{name_behind, leads_behind}
use Rattle.sql_rows.proofs.Kept.{shown_same}
use Rattle.sql_rows.proofs.Letters.{cmp_letters}
use Rattle.sql_rows.proofs.Raw.{alike, mapped, distinct_from}
use Rattle.sql_rows.proofs.Selects.{passes, passes_group, alone, gives, map_map}
use Rattle.sql_rows.proofs.Sorting.{AreDistinct, all_of_had, had_by_permutation, sorted_is, shown_in_order}
use Rattle.sql_rows.proofs.Typed.{AreOf, key_in, dropped, agree_is, one_row}
use Rattle.sql_rows.proofs.Writing.{fits_of, rise_of}

abbrev kinds : List KeyKind
kinds = text ∷ text ∷ []

-- WHERE the second name, ORDER BY the first
abbrev by_second : ℕ → List ℕ → List ℕ → Query
by_second tree n columns = simple tree (wheres 2 0 (n ∷ [])) (shows columns) (sorts 1 (text ∷ []))

each_same : {X Y : Type 0} (f g : X → Y) → ((x : X) → f x ≡ g x) → (xs : List X) → map f xs ≡ map g xs
each_same f g same [] = refl
each_same f g same (x ∷ xs) = ap₂ (λ y ys. y ∷ ys) (same x) (each_same f g same xs)

shown_cells : (columns : List ℕ) (params r : Row) → eval_all (shows columns) (params ∷ r ∷ []) ≡ cells_at columns (drop 1 r)
shown_cells [] params r = refl
shown_cells (c ∷ columns) params r = ap₂ (λ v row. v ∷ row) (sym (dropped r c)) (shown_cells columns params r)

module _ (schema : Schema) (given : Table) (keyed : IsKeyed schema (record given { is_counted = false }) kinds) (db : Trees) (fits : Fits schema db) (rise : Rise (db given.tree)) (n : List ℕ) where
  abbrev table : Table
  table = record given { is_counted = false }

  abbrev rows : List Row
  rows = db table.tree

  abbrev found : List Row
  found = filter (leads 2 (n ∷ [])) rows

  are : (r : Row) → Has rows r → AreOf 1 kinds r
  are r h = key_in schema db table fits keyed.listed keyed.keyless r h kinds 0 keyed.columns

  named_so : (r : Row) → leads 2 (n ∷ []) r ≡ true → n ≡ name_at 2 r
  named_so r led = name_is n (name_at 2 r) (and_parts (same_name n (name_at 2 r)) true led).0

  -- two rows with both names are one
  one : (r t : Row) → Has rows r → Has rows t → leads 2 (n ∷ []) r ≡ true → leads 2 (n ∷ []) t ≡ true → same_name (name_at 1 r) (name_at 1 t) ≡ true → r ≡ t
  one r t hr ht lr lt same =
      let second : same_name (name_at 2 r) (name_at 2 t) ≡ true = name_same (name_at 2 r) (name_at 2 t) (sym (named_so r lr) ∙ named_so t lt) in
      one_row schema db table keyed.index r t fits keyed.listed keyed.indexed keyed.guarded rise hr ht
      (subst₂ (λ o p. agree o p r p t ≡ true) (sym keyed.order) (sym keyed.places) (agree_is kinds 1 r t (are r hr) (are t ht) ∙ rw (same, second) refl))

  module _ (columns : List ℕ) (params : Row) where
    abbrev out : Row → Output
    out r = output (by_second table.tree n columns) (params ∷ r ∷ [])

    abbrev named : Output → List ℕ
    named o = name_at 0 o.0

    compares : (a b : Output) → (r : Row) × Has found r × (a ≡ out r) → (r : Row) × Has found r × (b ≡ out r) → output_cmp (by_second table.tree n columns) a b ≡ names_cmp (named a) (named b)
    compares a b (r, hr, ar) (t, ht, bt) =
        let x = has_filtered (leads 2 (n ∷ [])) rows r hr in
        let y = has_filtered (leads 2 (n ∷ [])) rows t ht in
        ap₂ (λ (u v : Output). key_cmp 0 (map (λ k. k.1) (sorts 1 (text ∷ []))) u.0 v.0) ar bt
        ∙ ap (λ o. ordering_then o Equal) (cmp_letters text (column r 1) (column t 1) (are r x.0).0 (are t y.0).0) ∙ then-Equal (names_cmp (name_at 1 r) (name_at 1 t))
        ∙ ap₂ names_cmp (sym (ap named ar)) (sym (ap named bt))

    lists : (shown : List Row) → AreGiven 0 (n ∷ []) params → IsAnswer (by_second table.tree n columns) db params shown → shown ≡ map (cells_at columns) (in_order (name_at 0) (filter (leads 1 (n ∷ [])) (kept rows)))
    lists shown bound answer =
        let first = λ (o : Output). o.1 in
        let g = gives table.tree (wheres 2 0 (n ∷ [])) (shows columns) (sorts 1 (text ∷ [])) db params shown answer in
        let chosen : filter (passes (wheres 2 0 (n ∷ [])) params) rows ≡ found = alike _ _ rows (λ r h. passes_group (n ∷ []) (text ∷ []) 2 0 params r (refl, tt) bound (are r h).1) in
        let same = subst (λ l. IsPermutation (map out l) g.ordered) chosen g.same in
        let apart : AreDistinct named (map out found) =
        subst (IsDistinct same_name) (sym (map_map named out found)) (distinct_from rows (leads 2 (n ∷ [])) (name_at 1) rise (λ r t hr ht pr pt e. one r t hr ht pr pt e)) in
        let whence = λ (o : Output) (h : Has g.ordered o). has_mapped out found o (had_by_permutation (map out found) g.ordered o same h) in
        let sorted : IsSorted (λ (a b : Output). names_cmp (named a) (named b)) g.ordered = λ k d low lt.
        let a = get_or g.ordered (k + 1) d in
        let b = get_or g.ordered k d in
        let origins = all_of_had (λ (o : Output). (r : Row) × Has found r × (o ≡ out r)) g.ordered whence in
        ap is_lt (sym (compares a b (origins (k + 1) d lt) (origins k d (omega arith)))) ∙ g.sorted k d low lt in
        g.shown ∙ ap (map first) (sorted_is named (map out found) g.ordered same apart sorted ∙ sym (shown_in_order (name_at 1) named out (λ r. refl) found)) ∙ map_map first out (in_order (name_at 1) found)
        ∙ each_same (λ r. first (out r)) (λ r. cells_at columns (drop 1 r)) (λ r. shown_cells columns params r) (in_order (name_at 1) found) ∙ sym (map_map (cells_at columns) (drop 1) (in_order (name_at 1) found))
        ∙ ap (map (cells_at columns)) (shown_in_order (name_at 1) (name_at 0) (drop 1) (λ r. name_behind [] 0 r) found
        ∙ ap (in_order (name_at 0)) (sym (mapped (drop 1) (leads 1 (n ∷ [])) rows ∙ ap kept (alike _ _ rows (λ r _. leads_behind (n ∷ []) 1 r)))))

-- what such a text shows, where it leaves the store as it was
pub shows_second : (schema : Schema) (given : Table) (keyed : IsKeyed schema (record given { is_counted = false }) (text ∷ text ∷ [])) (old new : State) → IsStore schema old → (sql : List ℕ) (names : List (List ℕ)) (params : Row)
    → IsPlain (understood schema sql) → reads_listing schema sql ≡ false → overlay old.now.trees [] given.tree ≡ old.now.trees given.tree → (shown : List Row) (n : List ℕ) (columns : List ℕ) → AreGiven 0 (n ∷ []) params
    → command_of (understood schema sql) ≡ Select (record { lets = []; body = simple given.tree (wheres 2 0 (n ∷ [])) (shows columns) (sorts 1 (text ∷ [])) }) names → Shown sql params old new shown
    → (shown ≡ map (cells_at columns) (in_order (name_at 0) (filter (leads 1 (n ∷ [])) (kept (old.now.trees given.tree))))) × IsUnchanged old new
shows_second schema given keyed old new store sql names params bare unlisted own shown n columns bound is h =
    let got = reads_as sql params old new schema store.schema_is _ is bare unlisted shown h in
    let answer : IsAnswer (by_second given.tree n columns) (overlay old.now.trees []) params shown = got.answer Null in (
      lists schema given keyed old.now.trees (fits_of schema given kinds keyed old store) (rise_of schema given kinds keyed old store) n columns params shown bound
          (alone given.tree (wheres 2 0 (n ∷ [])) (shows columns) (sorts 1 (text ∷ [])) old.now.trees (overlay old.now.trees []) params shown own answer),
      shown_same sql params old new schema store.schema_is bare shown h,
    )
