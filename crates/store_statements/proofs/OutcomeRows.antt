-- The rows of a page's outcomes are what is shown of them, behind the names of the site and the page.
use Rattle.std.proofs.Common.{◌≡◌, ℕ, zero, suc, List, [], ◌∷◌, map, drop, length, filter, true, refl, sym, ap, ap₂, subst, ◌∙◌, arith, All}
use Rattle.std.proofs.lemmas.Bool.{and_parts}
use Rattle.std.proofs.lemmas.List.Elements.{All-head, All-tail, All-nil}
use Rattle.sqlite_value.specs.declared.value.Value.{Value}
use Rattle.sqlite_value.specs.declared.value.Value.TheVariants.{Text}
use Rattle.sqlite_value.specs.Order.{Row, column}
use Rattle.sqlite_rules.specs.Lists.{Has}
use Rattle.sqlite_rules.proofs.ListLemmas.{has_filtered}
use Rattle.sqlite_rules.proofs.ProbeLemmas.{has_mapped}
use Rattle.sqlite.specs.State.{State}
use Rattle.named_rows.proofs.Lookups.{all_put_rows}
use Rattle.sql_rows.specs.Keyed.{text}
use Rattle.sql_rows.specs.Tables.{letters, name_in, leads, kept, name_at}
use Rattle.sql_rows.proofs.Canon.{name_is}
use Rattle.sql_rows.proofs.Letters.{IsOf}
use Rattle.sql_rows.proofs.Sorting.{all_of_had}
use Rattle.sql_rows.proofs.Typed.{dropped, as_long}
use Rattle.sql_rows.proofs.Writing.{fits_of, known}
use Rattle.store_statements.specs.Schema.{the_schema, outcomes_table}
use Rattle.store_statements.specs.Stored.{stored, outcomes_of, outcomes_at}
use Rattle.store_statements.specs.Changes.{IsStore}
use Rattle.store_statements.proofs.OutcomeTexts.{kinds, keyed}

-- ---- rows as lists of their columns

abbrev columns_from : ℕ → ℕ → Row → Row
columns_from at zero r = []
columns_from at (suc n) r = column r at ∷ columns_from (suc at) n r

behind : (v : Value) (r : Row) (at n : ℕ) → columns_from (suc at) n (v ∷ r) ≡ columns_from at n r
behind v r at zero = refl
behind v r at (suc n) = ap (λ l. column r at ∷ l) (behind v r (suc at) n)

all_columns : (r : Row) (n : ℕ) → length r ≡ n → r ≡ columns_from 0 n r
all_columns [] zero is = refl
all_columns [] (suc n) is = absurd (omega (arith, is))
all_columns (v ∷ r) zero is = absurd (omega (arith, is))
all_columns (v ∷ r) (suc n) is = ap (λ l. v ∷ l) (all_columns r n (omega (arith, is)) ∙ sym (behind v r 0 n))

-- a text of a key, known by its letters
text_named : (v : Value) (n : List ℕ) → IsOf text v → n ≡ letters v → v ≡ Text n
text_named v n of is = of ∙ ap Text (sym (is ∙ ap letters of))

-- ---- outcomes

abbrev pub shown_outcome : Row → Row
shown_outcome r = column r 2 ∷ column r 3 ∷ column r 4 ∷ column r 5 ∷ column r 6 ∷ column r 7 ∷ column r 8 ∷ column r 9 ∷ []

module _ (site page : List ℕ) where
  abbrev pub named_outcome : Row → Row
  named_outcome c = Text site ∷ Text page ∷ c

  abbrev IsWhole : Row → Type 0
  IsWhole r = r ≡ named_outcome (shown_outcome r)

  put_back : (rs : List Row) → All IsWhole rs → map named_outcome (map shown_outcome rs) ≡ rs
  put_back [] all = refl
  put_back (r ∷ rs) all = ap₂ (λ x xs. x ∷ xs) (sym (All-head IsWhole r rs all)) (put_back rs (All-tail IsWhole r rs all))

  module _ (s : State) (store : IsStore s) where
    whole : (r : Row) → Has (s.now.trees 8) r → leads 0 (site ∷ page ∷ []) (drop 1 r) ≡ true → IsWhole (drop 1 r)
    whole r there mine =
        let c = drop 1 r in
        let are = known the_schema outcomes_table kinds keyed s store r there in
        let first = and_parts _ _ mine in
        let second = and_parts _ _ first.1 in
        let site_is : column c 0 ≡ Text site = dropped r 0 ∙ text_named (column r 1) site are.0 (name_is site (name_at 0 c) first.0 ∙ ap letters (dropped r 0)) in
        let page_is : column c 1 ≡ Text page = dropped r 1 ∙ text_named (column r 2) page are.1.0 (name_is page (name_at 1 c) second.0 ∙ ap letters (dropped r 1)) in
        let long : length c ≡ 10 = as_long the_schema s.now.trees outcomes_table (fits_of the_schema outcomes_table kinds keyed s store) keyed.listed refl r there (refl, (refl, (refl, (refl, (refl, (refl, (refl, (refl, (refl, (refl, tt)))))))))) in
        all_columns c 10 long ∙ (λ i. site_is i ∷ page_is i ∷ shown_outcome c)

    -- what is shown of the outcomes tells their rows
    pub outcomes_whole : map named_outcome (outcomes_at site page (stored s.now.trees)) ≡ outcomes_of site page (stored s.now.trees)
    outcomes_whole =
        put_back (outcomes_of site page (stored s.now.trees))
        (all_put_rows (name_in 0 (site ∷ page ∷ [])) IsWhole (filter (leads 0 (site ∷ page ∷ [])) (kept (s.now.trees 8))) [] (all_of_had IsWhole _ (λ c h.
        let passed = has_filtered (leads 0 (site ∷ page ∷ [])) (kept (s.now.trees 8)) c h in
        let row = has_mapped (drop 1) (s.now.trees 8) c passed.0 in
        subst IsWhole (sym row.2) (whole row.0 row.1 (ap (leads 0 (site ∷ page ∷ [])) (sym row.2) ∙ passed.1)))) (All-nil IsWhole))
