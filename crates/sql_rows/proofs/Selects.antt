-- What a SELECT of one table with WHERE shows.
use Rattle.std.proofs.Common.{◌≡◌, ℕ, suc, List, [], ◌∷◌, ◌++◌, map, filter, Bool, true, false, cond, refl, sym, ap, ap₂, subst, ◌∙◌, ◌&&◌}
use Rattle.std.specs.Prelude.{IsPermutation, IsSorted, flat_map}
use Rattle.std.specs.List.{list_all}
use Rattle.std.proofs.lemmas.List.Sorted.{IsPermutation-sym}
use Rattle.sqlite_value.specs.declared.value.Value.TheVariants.{Null, Text}
use Rattle.sqlite_value.specs.declared.keys.Key.{Key}
use Rattle.sqlite_value.specs.declared.keys.Collation.TheVariants.{Binary}
use Rattle.sqlite_value.specs.Order.{Row, column}
use Rattle.sqlite_trees.specs.Tree.{Trees, rowid}
use Rattle.sqlite_rules.specs.Lists.{Has}
use Rattle.sqlite_rules.proofs.ListLemmas.{has_filtered, has_kept}
use Rattle.sqlite_rules.proofs.ProbeLemmas.{has_mapped, mapped_has}
use Rattle.sqlite_schema.specs.Rules.{equal}
use Rattle.sqlite_sql.specs.Term.{Term, col, holds}
use Rattle.sqlite_sql.specs.Query.{Query, Output, output, output_cmp, IsAnswer, matches_as, end}
use Rattle.sql_rows.specs.Tables.{name_at, leads}
use Rattle.sql_rows.specs.Keyed.{KeyKind, text}
use Rattle.sql_rows.specs.Queries.{simple, wheres, AreGiven, BeginWithTexts}
use Rattle.sql_rows.proofs.Letters.{IsOf, equal_letters}
use Rattle.sql_rows.proofs.Raw.{AreFound}
use Rattle.sql_rows.proofs.Sorting.{had_by_permutation, same_back}
use Rattle.sql_rows.proofs.Typed.{AreOf}

passing : {X Y : Type 0} (p : X → Bool) (f : X → Y) (xs : List X) → flat_map (λ x. cond (p x) (f x ∷ []) []) xs ≡ map f (filter p xs)
passing p f [] = refl
passing {X} {Y} p f (x ∷ xs) = step (p x) (passing p f xs)
  where
    step : (b : Bool) → flat_map (λ y. cond (p y) (f y ∷ []) []) xs ≡ map f (filter p xs) → cond b (f x ∷ []) [] ++ flat_map (λ y. cond (p y) (f y ∷ []) []) xs ≡ map f (cond b (x ∷ filter p xs) (filter p xs))
    step true e = ap (λ ys. f x ∷ ys) e
    step false e = e

pub map_map : {X Y Z : Type 0} (g : Y → Z) (f : X → Y) (xs : List X) → map g (map f xs) ≡ map (λ x. g (f x)) xs
map_map g f [] = refl
map_map g f (x ∷ xs) = ap (λ l. g (f x) ∷ l) (map_map g f xs)

abbrev pub passes : List Term → Row → Row → Bool
passes filter params r = list_all (holds (params ∷ r ∷ [])) filter

-- WHERE by the names of a group passes its rows
pub passes_group : (names : List (List ℕ)) (kinds : List KeyKind) (at param : ℕ) (params r : Row) → BeginWithTexts names kinds → AreGiven param names params → AreOf at kinds r → passes (wheres at param names) params r ≡ leads at names r
passes_group [] kinds at param params r fit given are = refl
passes_group (n ∷ names) [] at param params r fit given are = absurd fit
passes_group (n ∷ names) (k ∷ kinds) at param params r fit given are =
    let is : IsOf text (column r at) = subst (λ l. IsOf l (column r at)) fit.0 are.0 in
    ap₂ (λ a b. a && b)
    (ap (equal Binary (column r at)) given.0 ∙ equal_letters text (column r at) (Text n) is refl ∙ same_back (name_at at r) n)
    (passes_group names kinds (suc at) (suc param) params r fit.1 given.1 are.1)

module _ (tree : ℕ) (terms project : List Term) (order : List (Term × Key)) where
  abbrev q : Query
  q = simple tree terms project order

  -- the rows of a query that names no other table are its answer over the trees alone
  pub alone : (db other : Trees) (params : Row) (rows : List Row) → other tree ≡ db tree → IsAnswer q other params rows → IsAnswer q db params rows
  alone db other params rows same a = record {
    staged = a.staged;
    grouped = a.grouped ∙ ap (λ l. flat_map (λ r. matches_as Null db terms end (params ∷ r ∷ [])) l) same;
    kept = a.kept;
    distinct = a.distinct;
    ordered = a.ordered;
    same = a.same;
    sorted = a.sorted;
    shown = a.shown;
  }

  module _ (db : Trees) (params : Row) (rows : List Row) where
    abbrev out : Row → Output
    out r = output q (params ∷ r ∷ [])

    -- the outputs of the rows that pass, in some order that ORDER BY allows
    pub record Gives : Type 0 where
      pub ordered : List Output
      pub same : IsPermutation (map out (filter (passes terms params) (db tree))) ordered
      pub sorted : IsSorted (output_cmp q) ordered
      pub shown : rows ≡ map (λ (o : Output). o.1) ordered

    pub gives : IsAnswer q db params rows → Gives
    gives a =
        let env = λ (r : Row). params ∷ r ∷ [] in
        let staged : a.staged ≡ map env (filter (passes terms params) (db tree)) = a.grouped ∙ passing (passes terms params) env (db tree) in
        let kept = a.distinct ∙ ap (map (output q)) staged ∙ map_map (output q) env (filter (passes terms params) (db tree)) in
        record { ordered = a.ordered; same = subst (λ k. IsPermutation k a.ordered) kept a.same; sorted = a.sorted; shown = a.shown }

-- a query of the rowids of the rows that pass finds them
pub found_rowids : (tree : ℕ) (terms : List Term) (db : Trees) (params : Row) (rows : List Row) → IsAnswer (simple tree terms (col 1 0 ∷ []) []) db params rows → AreFound (passes terms params) (db tree) rows
found_rowids tree terms db params rows answer =
    let out = λ (r : Row). output (simple tree terms (col 1 0 ∷ []) []) (params ∷ r ∷ []) in
    let first = λ (o : Output). o.1 in
    let g = gives tree terms (col 1 0 ∷ []) [] db params rows answer in
    let found = filter (passes terms params) (db tree) in
    record {
      sound = λ x h.
          let o = has_mapped first g.ordered x (subst (λ l. Has l x) g.shown h) in
          let r = has_mapped out found o.0 (had_by_permutation (map out found) g.ordered o.0 g.same o.1) in
          let p = has_filtered (passes terms params) (db tree) r.0 r.1 in
          (r.0, p.0, p.1, o.2 ∙ ap first r.2);
      complete = λ r h p.
          let there = mapped_has out found r (has_kept (passes terms params) (db tree) r h p) in
          subst (λ l. Has l (rowid r ∷ [])) (sym g.shown) (mapped_has first g.ordered (out r) (had_by_permutation g.ordered (map out found) (out r) (IsPermutation-sym _ _ g.same) there));
    }
