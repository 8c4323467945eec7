-- What rows are read as after a change at one name, where they read before, and the tables that they tell then.
use Rattle.std.proofs.Common.{◌≡◌, ◌⊎◌, inl, inr, ℕ, List, Option, Some, sym, ap, subst, ◌∙◌}
use Rattle.sqlite_value.specs.Order.{Row}
use Rattle.named_rows.specs.ByName.{at, IsInOrder}
use Rattle.named_rows.proofs.Order.{at_each}
use Rattle.sql_rows.specs.Tables.{name_at}
use Rattle.sql_rows.proofs.Canon.{same_or_not, same_rows}
use Rattle.sql_rows.proofs.Sorting.{all_had}
use Rattle.keep_core.specs.declared.tables.KeptSite.{KeptSite}
use Rattle.keep_core.specs.Tables.{site_name}
use Rattle.store_tables.specs.Told.{Sites}
use Rattle.store_statements.specs.Stored.{Stored, sites_in}
use Rattle.store_tables.specs.Reading.{read_each, read_found}
use Rattle.store_tables.specs.Told.{sites_told}
use Rattle.store_tables.proofs.Steps.{some_same, found_reads}
use Rattle.store_tables.proofs.Each.{all_read, reads_at, reads_in_order, ChangesAt}
use Rattle.store_tables.proofs.Housing.{told_parts, sites_in_order}
use Rattle.store_tables.proofs.Telling.{Houses, TellsSite, read_row, same_row, row_named, told_site, told_from}

module _ {X : Type 0} (of : Row → List ℕ) (name : X → List ℕ) (n : List ℕ) (change : Option X → Option X) (changed : List X → List X) (before after : Row → Option X) (old new : List Row) where
  -- every other name is read as it was, and this one as what it was read as, changed
  pub record GoesOn : Type 0 where
    pub there : (y : Option X) → read_found before (at of n old) ≡ Some y → read_found after (at of n new) ≡ Some (change y)
    pub elsewhere : (m : List ℕ) → (m ≡ n → ⊥) → (x : Option X) → read_found before (at of m old) ≡ Some x → read_found after (at of m new) ≡ Some x

  module _ (named_before : (r : Row) (x : X) → before r ≡ Some x → name x ≡ of r) (named_after : (r : Row) (x : X) → after r ≡ Some x → name x ≡ of r) where
    -- rows that read before do so afterwards, as what that changes to
    pub moved : ChangesAt of name n change changed → IsInOrder of old → IsInOrder of new → GoesOn → (ss : List X) → read_each before old ≡ Some ss → read_each after new ≡ Some (changed ss)
    moved changes up_old up_new on ss is =
        let now = all_read after new (λ r there. row r (all_had (λ c. at of (of c) new ≡ Some c) new r (at_each of new up_new) there) (same_or_not (of r) n)) in
        let order = reads_in_order before of name named_before old ss up_old is in
        now.1
        ∙ ap Some (same_rows name now.0 (changed ss) (reads_in_order after of name named_after new now.0 up_new now.1) (changes.in_order ss order)
        (λ m. each order now.0 (reads_at after of name named_after new now.0 now.1) m (same_or_not m n)))
      where
        before_at : (m : List ℕ) → read_found before (at of m old) ≡ Some (at name m ss)
        before_at m = reads_at before of name named_before old ss is m

        row : (r : Row) → at of (of r) new ≡ Some r → (of r ≡ n) ⊎ (of r ≡ n → ⊥) → (x : X) × (after r ≡ Some x)
        row r there (inl same) =
            let found = found_reads (after r) (change (at name n ss)) (ap (read_found after) (sym there) ∙ ap (λ m. read_found after (at of m new)) same ∙ on.there (at name n ss) (before_at n)) in
            (found.0, found.1)
        row r there (inr other) =
            let found = found_reads (after r) (at name (of r) ss) (ap (read_found after) (sym there) ∙ on.elsewhere (of r) other (at name (of r) ss) (before_at (of r))) in
            (found.0, found.1)

        each : IsInOrder name ss → (ts : List X) → ((m : List ℕ) → read_found after (at of m new) ≡ Some (at name m ts)) → (m : List ℕ) → (m ≡ n) ⊎ (m ≡ n → ⊥) → at name m ts ≡ at name m (changed ss)
        each order ts after_at m (inl same) =
            ap (λ k. at name k ts) same ∙ some_same (at name n ts) (change (at name n ss)) (sym (after_at n) ∙ on.there (at name n ss) (before_at n)) ∙ sym (changes.there ss order)
            ∙ ap (λ k. at name k (changed ss)) (sym same)
        each order ts after_at m (inr other) =
            some_same (at name m ts) (at name m ss) (sym (after_at m) ∙ on.elsewhere m other (at name m ss) (before_at m)) ∙ sym (changes.elsewhere ss m other order)

-- a change of what is told of one site, before which tables are told, makes the change of these
pub tables_moved : (site : List ℕ) (change : Option KeptSite → Option KeptSite) (changed : Sites → Sites) (old new : Stored)
    → ChangesAt (name_at 0) site_name site change changed
    → ((y : Option KeptSite) → TellsSite old site y → TellsSite new site (change y))
    → ((other : List ℕ) → (other ≡ site → ⊥) → (x : Option KeptSite) → TellsSite old other x → TellsSite new other x)
    → (t : Sites) → sites_told old ≡ Some t → sites_told new ≡ Some (changed t)
tables_moved site change changed old new changes there elsewhere t is =
    told_from new (λ n. houses n (same_or_not n site)) (changed t)
    (moved (name_at 0) site_name site change changed (read_row old) (read_row new) (sites_in old) (sites_in new) (row_named old) (row_named new) changes
    (sites_in_order old) (sites_in_order new) (record { there = here; elsewhere = other_site }) t (told_parts old t is).reads)
  where
    -- what is read of a row is what the tables tell
    tells : (n : List ℕ) (x : Option KeptSite) → read_found (read_row old) (at (name_at 0) n (sites_in old)) ≡ Some x → TellsSite old n x
    tells n x reads = record { reads = sym (same_row old n) ∙ reads; houses = (told_site old t is n).houses }

    here : (y : Option KeptSite) → read_found (read_row old) (at (name_at 0) site (sites_in old)) ≡ Some y → read_found (read_row new) (at (name_at 0) site (sites_in new)) ≡ Some (change y)
    here y reads = same_row new site ∙ (there y (tells site y reads)).reads

    other_site : (n : List ℕ) → (n ≡ site → ⊥) → (x : Option KeptSite) → read_found (read_row old) (at (name_at 0) n (sites_in old)) ≡ Some x → read_found (read_row new) (at (name_at 0) n (sites_in new)) ≡ Some x
    other_site n other x reads = same_row new n ∙ (elsewhere n other x (tells n x reads)).reads

    houses : (n : List ℕ) → (n ≡ site) ⊎ (n ≡ site → ⊥) → Houses new n
    houses n (inl same) = subst (Houses new) (sym same) (there (at site_name site t) (told_site old t is site)).houses
    houses n (inr other) = (elsewhere n other (at site_name n t) (told_site old t is n)).houses
