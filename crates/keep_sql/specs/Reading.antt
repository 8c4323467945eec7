-- What is read of a store, and what a call that reads leaves.
use Rattle.std.specs.Prelude.{◌≡◌, ℕ, List, false, Option, Some, IfSome, Result, IfOk, OnOk, IsTrue}
use Rattle.std.specs.Borrow.{MutBor}
use Rattle.sqlite_trees.specs.declared.store.Store.{Ghosts}
use Rattle.sqlite.specs.Held.{Held, state}
use Rattle.sqlite.specs.State.{State, HasCleanDisk, IsUnchanged, Survives}
use Rattle.judge_core.specs.declared.judgement.Judgement.{Judgement}
use Rattle.judge_core.specs.declared.outcomes.Outcomes.{Outcomes}
use Rattle.keep_core.specs.declared.member.Membership.{Membership}
use Rattle.keep_core.specs.declared.site.Site.{Site}
use Rattle.keep_core.specs.declared.page.PageHead.{PageHead}
use Rattle.keep_core.specs.declared.page.Page.{Page}
use Rattle.store_statements.specs.Stored.{Stored, stored, names_at, site_at, members_at, memberships_at, page_at, heads_at, judgements_at, outcomes_at, editions_at, languages_at}
use Rattle.store_statements.specs.Changes.{IsStore, IsReady}
use Rattle.store_tables.specs.Members.{memberships_shown}
use Rattle.store_tables.specs.Sites.{site_shown, names_shown}
use Rattle.store_tables.specs.Pages.{page_shown, heads_shown}
use Rattle.store_tables.specs.Judgements.{judgements_shown}
use Rattle.store_tables.specs.Outcomes.{outcomes_shown}
use Rattle.store_tables.specs.Editions.{edition_shown, kept_edition}
use Rattle.keep_sql.specs.declared.known.Known.{Known}

abbrev pub rows_in : State → Stored
rows_in s = stored s.now.trees

-- what the rows are read as; None where one doesn't read
abbrev pub kept_in : State → Option ℕ
kept_in s = kept_edition (editions_at (rows_in s))

abbrev pub names_in : State → Option (List (List ℕ))
names_in s = names_shown (names_at (rows_in s))

abbrev pub site_in : List ℕ → State → Option (Option Site)
site_in site s = site_shown site (site_at site (rows_in s)) (members_at site (rows_in s)) (languages_at site (rows_in s))

abbrev pub memberships_in : List ℕ → State → Option (List Membership)
memberships_in user s = memberships_shown (memberships_at user (rows_in s))

abbrev pub page_in : List ℕ → List ℕ → State → Option (Option Page)
page_in site page s = page_shown page (page_at site page (rows_in s))

abbrev pub heads_in : List ℕ → State → Option (List PageHead)
heads_in site s = heads_shown (heads_at site (rows_in s))

abbrev pub judgements_in : List ℕ → List ℕ → State → Option (List Judgement)
judgements_in site page s = judgements_shown (judgements_at site page (rows_in s))

abbrev pub outcomes_in : List ℕ → List ℕ → State → Option Outcomes
outcomes_in site page s = outcomes_shown (outcomes_at site page (rows_in s))

-- the outcomes that are known, if any are, are what the rows of their page are read as, while the store is open
abbrev pub Recalls : Option Known → State → Type 0
Recalls known s = IfSome known (λ k. IsTrue s.is_open → outcomes_in k.site k.page s ≡ Some k.outcomes)

-- the greatest edition that is noted, if one is
abbrev pub edition_in : State → Option (Option ℕ)
edition_in s = edition_shown (editions_at (rows_in s))

-- a call in a transaction answers what the rows are read as
abbrev pub ReadsInside : {S A E : Type 0} → Ghosts S → (State → Option A) → MutBor (Held S) → MutBor (Held S) → Result A E → Type 0
ReadsInside g answer old new result = HasCleanDisk (state g new.now) → IsReady (state g old.now) → IfOk result (λ a. answer (state g old.now) ≡ Some a)

-- and leaves them as they were
abbrev pub LeavesInside : {S A E : Type 0} → Ghosts S → MutBor (Held S) → MutBor (Held S) → Result A E → Type 0
LeavesInside g old new result = HasCleanDisk (state g new.now) → IsReady (state g old.now) → OnOk result (IsUnchanged (state g old.now) (state g new.now))

-- this holds of what it answers, where the outcomes that are known are what is kept
abbrev pub ReadsKnowing : {S A E : Type 0} → Ghosts S → Option Known → (A → State → Type 0) → MutBor (Held S) → MutBor (Held S) → Result A E → Type 0
ReadsKnowing g known Reads old new result = HasCleanDisk (state g new.now) → IsReady (state g old.now) → Recalls known (state g old.now) → IfOk result (λ a. Reads a (state g old.now))

-- a call on a connection answers what the rows are read as
abbrev pub ReadsStore : {S A E : Type 0} → Ghosts S → (State → Option A) → Held S → Held S → Result A E → Type 0
ReadsStore g answer old new result = HasCleanDisk (state g new) → IsStore (state g old) → IfOk result (λ a. answer (state g old) ≡ Some a)

-- a call on a connection leaves the rows as they were
abbrev pub LeavesStore : State → State → Type 0
LeavesStore old new = HasCleanDisk new → IsTrue new.is_open → (new.now ≡ old.now) × IsTrue old.is_open

-- and does nothing else: no transaction is open after it, the rows are as they were, and a crash leaves what it could
-- leave before
pub record OnlyReads {S : Type 0} (g : Ghosts S) (old new : Held S) : Type 0 where
  pub idle : new.in_transaction ≡ false
  pub leaves : LeavesStore (state g old) (state g new)
  pub survives : Survives (state g old) (state g new) (λ _. ⊥)
