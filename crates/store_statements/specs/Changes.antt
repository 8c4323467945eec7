-- What each writing text does to what the tables hold.
use Rattle.std.specs.Prelude.{◌≡◌, ℕ, ℤ, List, [], ◌∷◌, Result, IfOk, OnOk}
use Rattle.std.specs.Borrow.{MutBor}
use Rattle.sqlite_value.specs.declared.value.Value.TheVariants.{Int, Text, Blob}
use Rattle.sqlite_value.specs.Order.{Row}
use Rattle.sqlite_trees.specs.declared.store.Store.{Ghosts}
use Rattle.sqlite.specs.Held.{Held, state}
use Rattle.sqlite.specs.State.{State, HasCleanDisk, IsUnchanged}
use Rattle.named_rows.specs.ByName.{put_row, take_row}
use Rattle.sql_rows.specs.Tables.{name_at}
use Rattle.sql_rows.specs.Changes.{Changes}
use Rattle.sql_rows.specs.Stores as rows
use Rattle.store_statements.specs.declared.judgements.JudgementRow.{JudgementRow}
use Rattle.store_statements.specs.declared.outcomes.OutcomeRow.{OutcomeRow}
use Rattle.store_statements.specs.Schema.{the_schema}
use Rattle.store_statements.specs.Stored.{Stored, stored}

-- ---- one group of one table is changed, and every other row stays

abbrev pub ChangesSites : (List Row → List Row) → Stored → Stored → Type 0
ChangesSites change old new = (new ≡ record old { sites = new.sites }) × Changes [] change old.sites new.sites

abbrev pub ChangesMembers : List ℕ → (List Row → List Row) → Stored → Stored → Type 0
ChangesMembers site change old new = (new ≡ record old { members = new.members }) × Changes (site ∷ []) change old.members new.members

abbrev pub ChangesPages : List ℕ → (List Row → List Row) → Stored → Stored → Type 0
ChangesPages site change old new = (new ≡ record old { pages = new.pages }) × Changes (site ∷ []) change old.pages new.pages

abbrev pub ChangesJudgements : List ℕ → List ℕ → (List Row → List Row) → Stored → Stored → Type 0
ChangesJudgements site page change old new = (new ≡ record old { judgements = new.judgements }) × Changes (site ∷ page ∷ []) change old.judgements new.judgements

abbrev pub ChangesOutcomes : List ℕ → List ℕ → (List Row → List Row) → Stored → Stored → Type 0
ChangesOutcomes site page change old new = (new ≡ record old { outcomes = new.outcomes }) × Changes (site ∷ page ∷ []) change old.outcomes new.outcomes

abbrev pub ChangesEditions : (List Row → List Row) → Stored → Stored → Type 0
ChangesEditions change old new = (new ≡ record old { editions = new.editions }) × Changes [] change old.editions new.editions

abbrev pub ChangesLanguages : List ℕ → (List Row → List Row) → Stored → Stored → Type 0
ChangesLanguages site change old new = (new ≡ record old { languages = new.languages }) × Changes (site ∷ []) change old.languages new.languages

-- ---- the writing texts

-- a site's row in place of the one of its name
abbrev pub PutsSite : List ℕ → ℤ → Stored → Stored → Type 0
PutsSite site counter = ChangesSites (put_row (name_at 0) (Text site ∷ Int counter ∷ []))

abbrev pub DropsMembers : List ℕ → Stored → Stored → Type 0
DropsMembers site = ChangesMembers site (λ _. [])

abbrev pub AddsMember : List ℕ → List ℕ → ℤ → Stored → Stored → Type 0
AddsMember site user role = ChangesMembers site (put_row (name_at 1) (Text site ∷ Text user ∷ Int role ∷ []))

-- a page's row in place of the one of its name
abbrev pub PutsPage : List ℕ → List ℕ → ℤ → List ℕ → List ℕ → Stored → Stored → Type 0
PutsPage site page rev hand snapshot = ChangesPages site (put_row (name_at 1) (Text site ∷ Text page ∷ Int rev ∷ Text hand ∷ Blob snapshot ∷ []))

abbrev pub DropsPage : List ℕ → List ℕ → Stored → Stored → Type 0
DropsPage site page = ChangesPages site (take_row (name_at 1) page)

abbrev pub DropsJudgements : List ℕ → List ℕ → Stored → Stored → Type 0
DropsJudgements site page = ChangesJudgements site page (λ _. [])

abbrev pub DropsOutcomes : List ℕ → List ℕ → Stored → Stored → Type 0
DropsOutcomes site page = ChangesOutcomes site page (λ _. [])

abbrev pub judgement_cells : List ℕ → List ℕ → JudgementRow → Row
judgement_cells site page j = Text site ∷ Text page ∷ Int j.seq ∷ Int j.rule ∷ Int j.node ∷ Int j.verdict ∷ Text j.hand.now ∷ Text j.note.now ∷ Text j.evidence.now ∷ []

-- a judgement of a page at the place that its seq has
abbrev pub AddsJudgement : List ℕ → List ℕ → JudgementRow → Stored → Stored → Type 0
AddsJudgement site page j = ChangesJudgements site page (put_row (name_at 2) (judgement_cells site page j))

abbrev pub outcome_cells : List ℕ → List ℕ → OutcomeRow → Row
outcome_cells site page o = Text site ∷ Text page ∷ Int o.seq ∷ Int o.rule ∷ Int o.node ∷ Int o.auto ∷ Text o.reason.now ∷ Text o.evidence.now ∷ Int o.last ∷ Text o.hand.now ∷ []

-- an outcome of a page in place of the one that has its seq
abbrev pub PutsOutcome : List ℕ → List ℕ → OutcomeRow → Stored → Stored → Type 0
PutsOutcome site page o = ChangesOutcomes site page (put_row (name_at 2) (outcome_cells site page o))

abbrev pub AddsEdition : ℤ → Stored → Stored → Type 0
AddsEdition number = ChangesEditions (put_row (name_at 0) (Int number ∷ []))

abbrev pub DropsEditions : Stored → Stored → Type 0
DropsEditions = ChangesEditions (λ _. [])

abbrev pub DropsLanguages : List ℕ → Stored → Stored → Type 0
DropsLanguages site = ChangesLanguages site (λ _. [])

-- a language of a site at the place that its seq has
abbrev pub AddsLanguage : List ℕ → ℤ → List ℕ → Stored → Stored → Type 0
AddsLanguage site seq tag = ChangesLanguages site (put_row (name_at 1) (Text site ∷ Int seq ∷ Text tag ∷ []))

-- ---- the store under them

-- a database of the store's tables
abbrev pub IsStore : State → Type 0
IsStore = rows.IsStore the_schema

-- and a transaction is open
abbrev pub IsReady : State → Type 0
IsReady = rows.IsReady the_schema

-- a statement made the change, and the transaction goes on
pub record Makes (Change : Stored → Stored → Type 0) (old new : State) : Type 0 where
  pub ready : IsReady new
  pub change : Change (stored old.now.trees) (stored new.now.trees)

-- ---- calls in a transaction, where the disk is clean

-- this holds of the answer and the rows, which stay as they were
abbrev pub ShowsInside : {S A E : Type 0} → Ghosts S → (A → Stored → Type 0) → MutBor (Held S) → MutBor (Held S) → Result A E → Type 0
ShowsInside g Shows old new result =
    HasCleanDisk (state g new.now) → IsReady (state g old.now) → IfOk result (λ a. Shows a (stored (state g old.now).now.trees) × IsUnchanged (state g old.now) (state g new.now))

-- this is made of the rows, and the transaction goes on
abbrev pub MakesInside : {S A E : Type 0} → Ghosts S → (Stored → Stored → Type 0) → MutBor (Held S) → MutBor (Held S) → Result A E → Type 0
MakesInside g Change old new result = HasCleanDisk (state g new.now) → IsReady (state g old.now) → OnOk result (Makes Change (state g old.now) (state g new.now))
