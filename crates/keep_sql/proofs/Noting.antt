-- The edition 0, noted where none is.
use Rattle.std.proofs.Common.{◌≡◌, inl, inr, ℕ, pos, List, [], ◌∷◌, map, Some, None, refl, sym, ap, subst, ◌∙◌}
use Rattle.sqlite_value.specs.declared.value.Value.TheVariants.{Int}
use Rattle.sqlite_value.specs.Order.{Row, column}
use Rattle.named_rows.specs.ByName.{put_row}
use Rattle.sql_rows.specs.Tables.{name_at}
use Rattle.sqlite_trees.specs.Tree.{Trees}
use Rattle.sqlite.specs.Effect.{Database}
use Rattle.sqlite.specs.State.{State}
use Rattle.store_statements.specs.Stored.{Stored, stored, editions_in, editions_at}
use Rattle.store_statements.specs.Changes.{IsStore, IsReady, AddsEdition}
use Rattle.store_statements.specs.Making.{nothing}
use Rattle.keep_core.specs.declared.limits.TheConstants.{MOST_REVISION}
use Rattle.store_tables.specs.Cells.{number_in}
use Rattle.store_tables.specs.Editions.{last_number, edition_shown}
use Rattle.store_tables.proofs.Steps.{some_same, none_some, both_read}
use Rattle.keep_sql.specs.Reading.{rows_in, edition_in}
use Rattle.keep_sql.specs.Preparing.{Notes, NotesOurs, MakesOurs}
use Rattle.keep_sql.proofs.Ready.{store_same, all_of, all_left}

number_stays : (n : ℕ) (rows : List Row) → last_number (Some n) rows ≡ Some None → ⊥
number_stays n [] is = none_some n (sym (some_same (Some n) None is))
number_stays n (c ∷ cs) is = let a = both_read (number_in MOST_REVISION (column c 0)) (λ number. last_number (Some number) cs) None is in number_stays a.0 cs a.2

-- where none is noted there are no rows
none_shown : (rows : List Row) → edition_shown rows ≡ Some None → rows ≡ []
none_shown [] is = refl
none_shown (c ∷ cs) is = let a = both_read (number_in MOST_REVISION (column c 0)) (λ number. last_number (Some number) cs) None is in absurd (number_stays a.0 cs a.2)

map_none : {A B : Type 0} (f : A → B) (xs : List A) → map f xs ≡ [] → xs ≡ []
map_none f [] none = refl
map_none f (x ∷ xs) none = absurd cc

pub noted_over : (old new : Stored) → edition_shown (editions_at old) ≡ Some None → AddsEdition (pos 0) old new → edition_shown (editions_at new) ≡ Some (Some 0)
noted_over old new none adds =
    let before : editions_in old ≡ [] = map_none (λ r. column r 0 ∷ []) (editions_in old) (none_shown (editions_at old) none) in
    let rows : editions_in new ≡ (Int (pos 0) ∷ []) ∷ [] = adds.1.there ∙ ap (put_row (name_at 0) (Int (pos 0) ∷ [])) before in
    ap (λ (rs : List Row). edition_shown (map (λ r. column r 0 ∷ []) rs)) rows

-- a store that had no tables
pub ours_noted : (new : State) → AddsEdition (pos 0) nothing (rows_in new) → edition_in new ≡ Some (Some 0)
ours_noted new adds = noted_over nothing (rows_in new) refl adds

-- a store whose rows stay
pub notes_found : (old new : State) (number : ℕ) → IsStore old → edition_in old ≡ Some (Some number) → new.now ≡ old.now → Notes old new number
notes_found old new number store found same = record { store = store_same old new same store; edition = ap (λ (d : Database). edition_shown (editions_at (stored d.trees))) same ∙ found; made = inl same }

-- 0, noted in a transaction of which these trees were committed
pub ours_left : (old mid : State) (db : Trees) → IsReady mid → edition_in old ≡ Some None → AddsEdition (pos 0) (rows_in old) (rows_in mid) → db ≡ mid.now.trees → NotesOurs old db
ours_left old mid db ready none adds is = (all_left mid db ready is, none, subst (λ (t : Trees). AddsEdition (pos 0) (rows_in old) (stored t)) (sym is) adds)

pub notes_ours : (old new : State) → IsStore new → edition_in old ≡ Some None → AddsEdition (pos 0) (rows_in old) (rows_in new) → Notes old new 0
notes_ours old new store none adds = record { store = store; edition = noted_over (rows_in old) (rows_in new) none adds; made = inr (refl, (all_of new store, none, adds)) }

-- of a store that had no tables
pub makes_left : (mid : State) (db : Trees) → IsReady mid → AddsEdition (pos 0) nothing (rows_in mid) → db ≡ mid.now.trees → MakesOurs db
makes_left mid db ready adds is = (all_left mid db ready is, subst (λ (t : Trees). AddsEdition (pos 0) nothing (stored t)) (sym is) adds)
