-- What is done to the rows of one key, or of one group, of a table.
use Rattle.std.proofs.Common.{◌≡◌, ℕ, suc, List, [], ◌∷◌, ◌++◌, drop, length, filter, Bool, true, false, not, refl, sym, ap, ap₂, subst, ◌∙◌, arith, ◌&&◌}
use Rattle.std.proofs.lemmas.Bool.{and_parts}
use Rattle.std.proofs.lemmas.List.Elements.{filter-append}
use Rattle.sqlite_value.specs.Order.{Row}
use Rattle.sqlite_rules.specs.Lists.{Has}
use Rattle.sqlite_rules.proofs.ListLemmas.{has_filtered, has_kept}
use Rattle.named_rows.specs.ByName.{put_row, take_row}
use Rattle.sql_rows.specs.InOrder.{in_order}
use Rattle.sql_rows.specs.Tables.{kept, letters, name_at, same_name, leads, name_in, is_row, rows_of, rows_outside}
use Rattle.sql_rows.specs.Changes.{Changes}
use Rattle.sql_rows.specs.Keyed.{KeyKind, IsNamedBy}
use Rattle.sql_rows.proofs.Canon.{name_is, is_other, replaced, taken, put_rows_append}
use Rattle.sql_rows.proofs.Sorting.{same_back}
use Rattle.sql_rows.proofs.Raw.{alike, twice, mapped}
use Rattle.sql_rows.proofs.Typed.{dropped, same_keys}

pub and_true : (b : Bool) → (b && true) ≡ b
and_true true = refl
and_true false = refl

and_assoc : (a b c : Bool) → ((a && b) && c) ≡ (a && (b && c))
and_assoc true b c = refl
and_assoc false b c = refl

nothing_more : {X : Type 0} (xs : List X) → xs ++ [] ≡ xs
nothing_more [] = refl
nothing_more (x ∷ xs) = ap (λ l. x ∷ l) (nothing_more xs)

-- ---- behind the rowids

pub name_behind : (group : List (List ℕ)) (at : ℕ) (r : Row) → name_in at group (drop 1 r) ≡ name_in (suc at) group r
name_behind [] at r = ap letters (dropped r at)
name_behind (n ∷ group) at r = name_behind group (suc at) r

pub leads_behind : (group : List (List ℕ)) (at : ℕ) (r : Row) → leads at group (drop 1 r) ≡ leads (suc at) group r
leads_behind [] at r = refl
leads_behind (n ∷ group) at r = ap₂ (λ a b. same_name n a && b) (ap letters (dropped r at)) (leads_behind group (suc at) r)

pub is_row_behind : (group : List (List ℕ)) (n : List ℕ) (r : Row) → is_row 0 group n (drop 1 r) ≡ is_row 1 group n r
is_row_behind group n r = ap₂ (λ a b. a && same_name n b) (leads_behind group 0 r) (name_behind group 0 r)

pub kept_group : (group : List (List ℕ)) (rows : List Row) → filter (leads 0 group) (kept rows) ≡ kept (filter (leads 1 group) rows)
kept_group group rows = mapped (drop 1) (leads 0 group) rows ∙ ap kept (alike _ _ rows (λ r _. leads_behind group 0 r))

pub kept_outside : (group : List (List ℕ)) (rows : List Row) → kept (filter (λ r. not (leads 1 group r)) rows) ≡ filter (λ c. not (leads 0 group c)) (kept rows)
kept_outside group rows = sym (mapped (drop 1) (λ c. not (leads 0 group c)) rows ∙ ap kept (alike _ _ rows (λ r _. ap not (leads_behind group 0 r))))

pub kept_without : (group : List (List ℕ)) (n : List ℕ) (rows : List Row) → kept (filter (λ r. not (is_row 1 group n r)) rows) ≡ filter (λ c. not (is_row 0 group n c)) (kept rows)
kept_without group n rows = sym (mapped (drop 1) (λ c. not (is_row 0 group n c)) rows ∙ ap kept (alike _ _ rows (λ r _. ap not (is_row_behind group n r))))

-- ---- the row of a name in a group

-- its names with its own behind them
pub leads_key : (group : List (List ℕ)) (n : List ℕ) (at : ℕ) (r : Row) → leads at (group ++ n ∷ []) r ≡ is_row at group n r
leads_key [] n at r = and_true (same_name n (name_at at r))
leads_key (m ∷ group) n at r = ap (λ b. same_name m (name_at at r) && b) (leads_key group n (suc at) r) ∙ sym (and_assoc (same_name m (name_at at r)) _ _)

-- rows have the key of one row where they are of its name in its group
pub keys_are : (kinds : List KeyKind) (group : List (List ℕ)) (at : ℕ) (r s : Row) → IsNamedBy kinds group → leads at group s ≡ true → same_keys at kinds r s ≡ is_row at group (name_in at group s) r
keys_are [] group at r s fit hs = absurd fit
keys_are (k ∷ []) [] at r s fit hs = and_true _ ∙ same_back (name_at at r) (name_at at s)
keys_are (k ∷ l ∷ kinds) [] at r s fit hs = absurd fit
keys_are (k ∷ []) (n ∷ group) at r s fit hs = absurd fit
keys_are (k ∷ l ∷ kinds) (n ∷ group) at r s fit hs =
    let two = and_parts _ _ hs in
    ap₂ (λ a b. a && b) (same_back (name_at at r) (name_at at s) ∙ ap (λ m. same_name m (name_at at r)) (sym (name_is n (name_at at s) two.0))) (keys_are (l ∷ kinds) group (suc at) r s fit two.1)
    ∙ sym (and_assoc (same_name n (name_at at r)) _ _)

both : (a b : Bool) → (not (a && b) && a) ≡ (a && not b)
both true true = refl
both true false = refl
both false b = refl

neither : (a b : Bool) → (not (a && b) && not a) ≡ not a
neither true true = refl
neither true false = refl
neither false b = refl

-- ---- changes

module _ (group : List (List ℕ)) where
  abbrev name : Row → List ℕ
  name = name_in 0 group

  without_row : (n : List ℕ) (cs : List Row) → filter (leads 0 group) (filter (λ c. not (is_row 0 group n c)) cs) ≡ filter (is_other name n) (filter (leads 0 group) cs)
  without_row n cs =
      twice (leads 0 group) (λ c. not (is_row 0 group n c)) cs ∙ alike _ _ cs (λ c _. both (leads 0 group c) (same_name n (name c)))
      ∙ sym (twice (is_other name n) (leads 0 group) cs)

  outside_row : (n : List ℕ) (cs : List Row) → rows_outside group (filter (λ c. not (is_row 0 group n c)) cs) ≡ rows_outside group cs
  outside_row n cs = twice (λ c. not (leads 0 group c)) (λ c. not (is_row 0 group n c)) cs ∙ alike _ _ cs (λ c _. neither (leads 0 group c) (same_name n (name c)))

  -- the row of a name is taken out
  pub take_changes : (n : List ℕ) (cs : List Row) → Changes group (take_row name n) cs (filter (λ c. not (is_row 0 group n c)) cs)
  take_changes n cs = record { there = ap (in_order name) (without_row n cs) ∙ taken name n (filter (leads 0 group) cs); elsewhere = outside_row n cs }

  none_left : (cs : List Row) → filter (leads 0 group) (rows_outside group cs) ≡ []
  none_left cs = twice (leads 0 group) (λ c. not (leads 0 group c)) cs ∙ alike _ (λ _. false) cs (λ c _. never (leads 0 group c)) ∙ none cs
    where
      never : (b : Bool) → (not b && b) ≡ false
      never true = refl
      never false = refl

      none : (cs : List Row) → filter (λ _. false) cs ≡ []
      none [] = refl
      none (c ∷ cs) = none cs

  -- all rows of the group are taken out
  pub drop_changes : (cs : List Row) → Changes group (λ _. []) cs (rows_outside group cs)
  drop_changes cs = record {
    there = ap (in_order name) (none_left cs);
    elsewhere = twice (λ c. not (leads 0 group c)) (λ c. not (leads 0 group c)) cs ∙ alike _ _ cs (λ c _. again (not (leads 0 group c)));
  }
    where
      again : (b : Bool) → (b && b) ≡ b
      again true = refl
      again false = refl

  module _ (cells : Row) (mine : leads 0 group cells ≡ true) where
    with_one : (cs : List Row) → filter (leads 0 group) (cs ++ cells ∷ []) ≡ filter (leads 0 group) cs ++ cells ∷ []
    with_one cs = filter-append (leads 0 group) cs (cells ∷ []) ∙ ap (λ l. filter (leads 0 group) cs ++ l) (rw mine refl)

    outside_one : (cs : List Row) → rows_outside group (cs ++ cells ∷ []) ≡ rows_outside group cs
    outside_one cs = filter-append (λ c. not (leads 0 group c)) cs (cells ∷ []) ∙ ap (λ l. rows_outside group cs ++ l) (rw mine refl) ∙ nothing_more (rows_outside group cs)

    -- a row comes behind the others
    pub add_changes : (cs : List Row) → Changes group (put_row name cells) cs (cs ++ cells ∷ [])
    add_changes cs = record { there = ap (in_order name) (with_one cs) ∙ put_rows_append name (filter (leads 0 group) cs) (cells ∷ []) []; elsewhere = outside_one cs }

    -- a row comes in place of the one of its name
    pub put_changes : (cs : List Row) → Changes group (put_row name cells) cs (filter (λ c. not (is_row 0 group (name cells) c)) cs ++ cells ∷ [])
    put_changes cs =
        let others = filter (λ c. not (is_row 0 group (name cells) c)) cs in
        record {
          there = ap (in_order name) (with_one others ∙ ap (λ l. l ++ cells ∷ []) (without_row (name cells) cs)) ∙ replaced name cells (filter (leads 0 group) cs);
          elsewhere = outside_one others ∙ outside_row (name cells) cs;
        }

-- ---- what a change of one group is to the others

-- a row is of one group alone among those of so many names
one_group : (group other : List (List ℕ)) (at : ℕ) (r : Row) → length other ≡ length group → leads at group r ≡ true → leads at other r ≡ true → other ≡ group
one_group [] [] at r same h k = refl
one_group [] (m ∷ other) at r same h k = absurd cc
one_group (n ∷ group) [] at r same h k = absurd cc
one_group (n ∷ group) (m ∷ other) at r same h k =
    let shorter : length other ≡ length group = omega (arith, same) in
    let a = and_parts _ _ h in
    let b = and_parts _ _ k in
    ap₂ (λ x xs. x ∷ xs) (name_is m (name_at at r) b.0 ∙ sym (name_is n (name_at at r) a.0)) (one_group group other (suc at) r shorter a.1 b.1)

module _ {change : List Row → List Row} (group : List (List ℕ)) (old new : List Row) (changes : Changes group change old new) where
  pub other_group : (other : List (List ℕ)) → length other ≡ length group → (other ≡ group → ⊥) → rows_of other new ≡ rows_of other old
  other_group other long apart = ap (in_order (name_in 0 other)) (through new ∙ ap (filter (leads 0 other)) changes.elsewhere ∙ sym (through old))
    where
      only : (r : Row) (a b : Bool) → leads 0 other r ≡ a → leads 0 group r ≡ b → a ≡ (not b && a)
      only r true true h k = absurd (apart (one_group group other 0 r long k h))
      only r true false h k = refl
      only r false true h k = refl
      only r false false h k = refl

      through : (rows : List Row) → filter (leads 0 other) rows ≡ filter (leads 0 other) (rows_outside group rows)
      through rows = alike _ _ rows (λ r _. only r (leads 0 other r) (leads 0 group r) refl refl) ∙ sym (twice (leads 0 other) (λ r. not (leads 0 group r)) rows)

  pub stays : (c : Row) → leads 0 group c ≡ false → Has old c → Has new c
  stays c other h =
      (has_filtered (λ r. not (leads 0 group r)) new c
      (subst (λ rows. Has rows c) (sym changes.elsewhere) (has_kept (λ r. not (leads 0 group r)) old c h (ap not other)))).0

  pub came : (c : Row) → leads 0 group c ≡ false → Has new c → Has old c
  came c other h =
      (has_filtered (λ r. not (leads 0 group r)) old c
      (subst (λ rows. Has rows c) changes.elsewhere (has_kept (λ r. not (leads 0 group r)) new c h (ap not other)))).0
