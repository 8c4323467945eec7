-- Outcomes that are put over those that are kept, where they differ.
use Rattle.std.proofs.Common.{◌≡◌, ℕ, suc, pos, ◌<◌, ◌≤◌, ◌+◌, ◌-◌, min, List, [], ◌∷◌, ◌++◌, length, take, drop, Bool, true, false, cond, Some, refl, sym, ap, ap₂, subst, ◌∙◌, arith, int_cmp, Greater}
use Rattle.std.proofs.lemmas.List.{length-take, length-take-le, length-drop}
use Rattle.std.proofs.lemmas.Bool.Decides.{nat_tests}
use Rattle.std.proofs.lemmas.Int.{ints}
use Rattle.std.specs.Ordering.{match_ordering}
use Rattle.sqlite_value.specs.Order.{Row}
use Rattle.sqlite.specs.State.{State}
use Rattle.named_rows.specs.ByName.{names_cmp, put_row, put_rows}
use Rattle.named_rows.proofs.Names.{same_itself}
use Rattle.sql_rows.specs.Tables.{name_at, number_letters}
use Rattle.sql_rows.proofs.Canon.{put_rows_append}
use Rattle.sql_rows.proofs.Letters.{numbers_rise}
use Rattle.judge_core.specs.declared.outcomes.OutRow.{OutRow}
use Rattle.judge_core.specs.declared.outcomes.Outcomes.{Outcomes}
use Rattle.judge_core.specs.Equality.{same_row}
use Rattle.judge_core.proofs.Equal.{rows_decide}
use Rattle.store_statements.specs.Stored.{outcomes_of, outcomes_at}
use Rattle.store_statements.specs.Changes.{IsReady, Makes, ChangesOutcomes}
use Rattle.store_tables.specs.Outcomes.{outcome_cells, outcomes_cells, outcome_rows}
use Rattle.store_tables.proofs.Appending.{in_order_same}
use Rattle.store_tables.proofs.Written.{cells_in_order}
use Rattle.store_tables.proofs.Rewritten.{outcomes_written}
use Rattle.keep_sql.specs.Reading.{rows_in, outcomes_in}
use Rattle.keep_sql.specs.Writing.{changed_cells}
use Rattle.keep_sql.proofs.Checking.{rows_read}
use Rattle.keep_sql.proofs.Wholes.{outcomes_then, cells_append, joined}

module _ (site page : List ℕ) where
  -- the outcomes that differ, put over rows
  abbrev put_changed : ℕ → List OutRow → List OutRow → List Row → List Row
  put_changed place ks os rows = put_rows (name_at 2) (changed_cells site page place ks os) rows

  -- a row of a place before theirs stays first
  past : (c : Row) (k : ℕ) → name_at 2 c ≡ number_letters (pos k) → (place : ℕ) → k < place → (ks os : List OutRow) (rows : List Row) → put_changed place ks os (c ∷ rows) ≡ c ∷ put_changed place ks os rows
  past c k named place less [] os rows = refl
  past c k named place less (x ∷ ks) [] rows = refl
  past c k named place less (x ∷ ks) (o ∷ os) rows =
      by (same_row x o) (past c k named (suc place) (omega (arith, less)) ks os rows) (past c k named (suc place) (omega (arith, less)) ks os (put_row (name_at 2) (outcome_cells site page place o) rows))
    where
      behind : names_cmp (number_letters (pos place)) (name_at 2 c) ≡ Greater
      behind = let above : int_cmp (pos place) (pos k) ≡ Greater = grind (arith, ints, nat_tests, less) in ap (names_cmp (number_letters (pos place))) named ∙ numbers_rise (pos place) (pos k) ∙ above

      later : put_row (name_at 2) (outcome_cells site page place o) (c ∷ rows) ≡ c ∷ put_row (name_at 2) (outcome_cells site page place o) rows
      later = ap (λ q. match_ordering q (outcome_cells site page place o ∷ c ∷ rows) (outcome_cells site page place o ∷ rows) (c ∷ put_row (name_at 2) (outcome_cells site page place o) rows)) behind

      by : (same : Bool) → put_changed (suc place) ks os (c ∷ rows) ≡ c ∷ put_changed (suc place) ks os rows
          → put_changed (suc place) ks os (c ∷ put_row (name_at 2) (outcome_cells site page place o) rows) ≡ c ∷ put_changed (suc place) ks os (put_row (name_at 2) (outcome_cells site page place o) rows)
          → put_rows (name_at 2) (cond same (changed_cells site page (suc place) ks os) (outcome_cells site page place o ∷ changed_cells site page (suc place) ks os)) (c ∷ rows)
          ≡ c ∷ put_rows (name_at 2) (cond same (changed_cells site page (suc place) ks os) (outcome_cells site page place o ∷ changed_cells site page (suc place) ks os)) rows
      by true unput put = unput
      by false unput put = ap (put_changed (suc place) ks os) later ∙ put

  -- the rows of kept outcomes, with those of others that differ put over them, are the rows of the others
  puts_changed : (place : ℕ) (ks os : List OutRow) → length ks ≡ length os → put_changed place ks os (outcomes_cells site page place ks) ≡ outcomes_cells site page place os
  puts_changed place [] [] many = refl
  puts_changed place [] (o ∷ os) many = absurd (omega (arith, many))
  puts_changed place (k ∷ ks) [] many = absurd (omega (arith, many))
  puts_changed place (k ∷ ks) (o ∷ os) many = by (same_row k o) refl (puts_changed (suc place) ks os (omega (arith, many)))
    where
      below : (x : OutRow) → put_changed (suc place) ks os (outcomes_cells site page (suc place) ks) ≡ outcomes_cells site page (suc place) os
          → put_changed (suc place) ks os (outcomes_cells site page place (x ∷ ks)) ≡ outcomes_cells site page place (x ∷ os)
      below x rest = past (outcome_cells site page place x) place refl (suc place) (omega arith) ks os (outcomes_cells site page (suc place) ks) ∙ ap (λ l. outcome_cells site page place x ∷ l) rest

      over : put_row (name_at 2) (outcome_cells site page place o) (outcomes_cells site page place (k ∷ ks)) ≡ outcomes_cells site page place (o ∷ ks)
      over =
          ap (λ q. match_ordering q (outcome_cells site page place o ∷ outcomes_cells site page place (k ∷ ks)) (outcomes_cells site page place (o ∷ ks))
          (outcome_cells site page place k ∷ put_row (name_at 2) (outcome_cells site page place o) (outcomes_cells site page (suc place) ks)))
          (same_itself (number_letters (pos place)))

      by : (same : Bool) → same_row k o ≡ same → put_changed (suc place) ks os (outcomes_cells site page (suc place) ks) ≡ outcomes_cells site page (suc place) os
          → put_rows (name_at 2) (cond same (changed_cells site page (suc place) ks os) (outcome_cells site page place o ∷ changed_cells site page (suc place) ks os)) (outcomes_cells site page place (k ∷ ks))
          ≡ outcomes_cells site page place (o ∷ os)
      by true is rest = below k rest ∙ ap (λ x. outcomes_cells site page place (x ∷ os)) ((rows_decide k o).0 is)
      by false is rest = ap (put_changed (suc place) ks os) over ∙ below o rest

  changed_append : (place next : ℕ) (ks ls os ps : List OutRow) → length ks ≡ length os → next ≡ place + length os
      → changed_cells site page place (ks ++ ls) (os ++ ps) ≡ changed_cells site page place ks os ++ changed_cells site page next ls ps
  changed_append place next [] ls [] ps many is = let same : place ≡ next = omega (arith, is) in ap (λ n. changed_cells site page n ls ps) same
  changed_append place next [] ls (o ∷ os) ps many is = absurd (omega (arith, many))
  changed_append place next (k ∷ ks) ls [] ps many is = absurd (omega (arith, many))
  changed_append place next (k ∷ ks) ls (o ∷ os) ps many is = by (same_row k o) (changed_append (suc place) next ks ls os ps (omega (arith, many)) (omega (arith, is)))
    where
      by : (same : Bool) → changed_cells site page (suc place) (ks ++ ls) (os ++ ps) ≡ changed_cells site page (suc place) ks os ++ changed_cells site page next ls ps
          → cond same (changed_cells site page (suc place) (ks ++ ls) (os ++ ps)) (outcome_cells site page place o ∷ changed_cells site page (suc place) (ks ++ ls) (os ++ ps))
          ≡ cond same (changed_cells site page (suc place) ks os) (outcome_cells site page place o ∷ changed_cells site page (suc place) ks os) ++ changed_cells site page next ls ps
      by true rest = rest
      by false rest = ap (λ l. outcome_cells site page place o ∷ l) rest

  -- outcomes that are put over kept ones of as many places, and then more, are all
  over_all : (next : ℕ) (kept first rest all : List OutRow) → all ≡ first ++ rest → length kept ≡ length first → next ≡ 1 + length first
      → put_rows (name_at 2) (outcomes_cells site page next rest) (put_rows (name_at 2) (changed_cells site page 1 kept first) (outcomes_cells site page 1 kept)) ≡ put_rows (name_at 2) (outcomes_cells site page 1 all) []
  over_all next kept first rest all is many at =
      ap (put_rows (name_at 2) (outcomes_cells site page next rest)) (puts_changed 1 kept first many ∙ sym (in_order_same (name_at 2) (outcomes_cells site page 1 first) (cells_in_order site page 1 first)))
      ∙ sym (put_rows_append (name_at 2) (outcomes_cells site page 1 first) (outcomes_cells site page next rest) [])
      ∙ ap (λ l. put_rows (name_at 2) l []) (sym (cells_append site page 1 next first rest at) ∙ ap (outcomes_cells site page 1) (sym is))

  -- a change of a page's rows is any that makes the same of them
  made_as : (f g : List Row → List Row) (a b : State) → f (outcomes_of site page (rows_in a)) ≡ g (outcomes_of site page (rows_in a)) → Makes (ChangesOutcomes site page f) a b → Makes (ChangesOutcomes site page g) a b
  made_as f g a b same made = record { ready = made.ready; change = (made.change.0, record { there = made.change.1.there ∙ same; elsewhere = made.change.1.elsewhere }) }

  -- ---- calls

  -- where nothing differs the rows stay
  pub none_changed : (place : ℕ) (ks os : List OutRow) (a : State) → IsReady a → changed_cells site page place ks os ≡ [] → Makes (ChangesOutcomes site page (put_rows (name_at 2) (changed_cells site page place ks os))) a a
  none_changed place ks os a ready none =
      subst (λ (l : List Row). Makes (ChangesOutcomes site page (put_rows (name_at 2) l)) a a) (sym none) (record { ready = ready; change = (refl, record { there = refl; elsewhere = refl }) })

  pub same_unchanged : (place : ℕ) (k o : OutRow) (a : State) → IsReady a → same_row k o ≡ true → Makes (ChangesOutcomes site page (put_rows (name_at 2) (changed_cells site page place (k ∷ []) (o ∷ [])))) a a
  same_unchanged place k o a ready same = none_changed place (k ∷ []) (o ∷ []) a ready (ap (λ (b : Bool). cond b [] (outcome_cells site page place o ∷ [])) same)

  pub other_changed : (place : ℕ) (k o : OutRow) (a b : State) → same_row k o ≡ false → Makes (ChangesOutcomes site page (put_row (name_at 2) (outcome_cells site page place o))) a b
      → Makes (ChangesOutcomes site page (put_rows (name_at 2) (changed_cells site page place (k ∷ []) (o ∷ [])))) a b
  other_changed place k o a b other made =
      subst (λ (l : List Row). Makes (ChangesOutcomes site page (put_rows (name_at 2) l)) a b) (sym (ap (λ (e : Bool). cond e [] (outcome_cells site page place o ∷ [])) other)) made

  pub one_changed : (place : ℕ) (ks os : List OutRow) (k o : OutRow) (a b : State) → ks ≡ k ∷ [] → os ≡ o ∷ []
      → Makes (ChangesOutcomes site page (put_rows (name_at 2) (changed_cells site page place (k ∷ []) (o ∷ [])))) a b → Makes (ChangesOutcomes site page (put_rows (name_at 2) (changed_cells site page place ks os))) a b
  one_changed place ks os k o a b first second made =
      subst (λ (l : List Row). Makes (ChangesOutcomes site page (put_rows (name_at 2) l)) a b) (sym (ap₂ (changed_cells site page place) first second)) made

  pub changed_halves : (place next : ℕ) (ks ks1 ks2 os os1 os2 : List OutRow) (a b c : State) → ks ≡ ks1 ++ ks2 → os ≡ os1 ++ os2 → length ks1 ≡ length os1 → next ≡ place + length os1
      → Makes (ChangesOutcomes site page (put_rows (name_at 2) (changed_cells site page place ks1 os1))) a b → Makes (ChangesOutcomes site page (put_rows (name_at 2) (changed_cells site page next ks2 os2))) b c
      → Makes (ChangesOutcomes site page (put_rows (name_at 2) (changed_cells site page place ks os))) a c
  changed_halves place next ks ks1 ks2 os os1 os2 a b c kept whole many at =
      joined site page (changed_cells site page place ks1 os1) (changed_cells site page next ks2 os2) (changed_cells site page place ks os) a b c (ap₂ (changed_cells site page place) kept whole ∙ changed_append place next ks1 ks2 os1 os2 many at)

  -- outcomes that are put over those that are kept take their place
  pub written_over : (kept outcomes : Outcomes) (next : ℕ) (ks first rest : List OutRow) (a b c : State) → IsReady a → outcomes_in site page a ≡ Some kept → ks ≡ kept.rows → outcomes.rows ≡ first ++ rest
      → length kept.rows ≡ length first → next ≡ 1 + length first → Makes (ChangesOutcomes site page (put_rows (name_at 2) (changed_cells site page 1 ks first))) a b
      → Makes (ChangesOutcomes site page (put_rows (name_at 2) (outcomes_cells site page next rest))) b c → Makes (ChangesOutcomes site page (λ _. outcome_rows site page outcomes)) a c
  written_over kept outcomes next ks first rest a b c ready shown are is many at changed added =
      let puts : List Row → List Row = λ rows. put_rows (name_at 2) (outcomes_cells site page next rest) (put_rows (name_at 2) (changed_cells site page 1 ks first) rows) in
      let stand : outcomes_of site page (rows_in a) ≡ outcomes_cells site page 1 ks =
      outcomes_written a ready.store site page kept.rows (rows_read (outcomes_at site page (rows_in a)) kept shown) ∙ ap (outcomes_cells site page 1) (sym are) in
      made_as puts (λ _. outcome_rows site page outcomes) a c (ap puts stand ∙ over_all next ks first rest outcomes.rows is (ap length are ∙ many) at)
      (outcomes_then site page (put_rows (name_at 2) (changed_cells site page 1 ks first)) (put_rows (name_at 2) (outcomes_cells site page next rest)) a b c changed added)

-- parts of lists that are as long
pub firsts_as_long : (mid : ℕ) (ks os : List OutRow) → length ks ≡ length os → length (take mid ks) ≡ length (take mid os)
firsts_as_long mid ks os long = length-take mid ks ∙ ap (min mid) long ∙ sym (length-take mid os)

pub rests_as_long : (mid : ℕ) (ks os : List OutRow) → length ks ≡ length os → length (drop mid ks) ≡ length (drop mid os)
rests_as_long mid ks os long = length-drop mid ks ∙ ap (λ n. n - mid) long ∙ sym (length-drop mid os)

pub first_as_long : (mid : ℕ) (ks os all first : List OutRow) → mid ≡ length ks → os ≡ all → first ≡ take mid os → length ks ≤ length all → length ks ≡ length first
first_as_long mid ks os all first count same is within =
    let enough : mid ≤ length os = omega (arith, count, within, ap length same) in
    let long : length first ≡ mid = ap length is ∙ length-take-le mid os enough in
    sym (long ∙ count)
