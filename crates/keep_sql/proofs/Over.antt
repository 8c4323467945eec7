-- What is put over rows that read: a page, judgements that come to one, a site, new outcomes, languages and an edition.
use Rattle.std.proofs.Common.{◌≡◌, inl, inr, ℕ, suc, pos, ℤ, List, [], ◌∷◌, map, length, true, false, Option, Some, None, IsSome, Ok, sym, ap, ap₂, subst, ◌∙◌}
use Rattle.sqlite_value.specs.declared.value.Value.TheVariants.{Int}
use Rattle.sqlite_value.specs.Order.{Row}
use Rattle.sqlite.specs.Effect.{Database}
use Rattle.sqlite.specs.State.{State, IsUnchanged}
use Rattle.named_rows.specs.ByName.{put_row, put_rows}
use Rattle.snap_json.specs.Pages.{kept_tree}
use Rattle.sql_rows.specs.Tables.{name_at, rows_outside}
use Rattle.sql_rows.specs.Changes.{Changes}
use Rattle.judge_core.specs.declared.judgement.Judgement.{Judgement}
use Rattle.judge_core.specs.declared.outcomes.Outcomes.{Outcomes}
use Rattle.keep_core.specs.declared.site.Site.{Site}
use Rattle.keep_core.specs.declared.page.PagePut.{PagePut}
use Rattle.keep_core.specs.declared.page.PageOutcomes.{PageOutcomes}
use Rattle.keep_core.specs.declared.change.Change.TheVariants.{PutSite, AddJudgements, PutLanguages, SetEdition}
use Rattle.store_statements.specs.Stored.{Stored, stored, judgements_at, outcomes_at}
use Rattle.store_statements.specs.Changes.{IsReady, Makes, PutsSite, ChangesMembers, ChangesPages, ChangesJudgements, ChangesOutcomes, ChangesLanguages, ChangesEditions}
use Rattle.store_tables.specs.Members.{member_cells}
use Rattle.store_tables.specs.Languages.{language_rows}
use Rattle.store_tables.specs.Sites.{site_cells}
use Rattle.store_tables.specs.Outcomes.{outcomes_shown, outcome_rows}
use Rattle.store_tables.specs.Pages.{page_cells}
use Rattle.store_tables.specs.Told.{is_site, is_page}
use Rattle.store_tables.specs.Batches.{Applies, ReadsSite, ReadsPage, ReadsJudged, RefreshesOne, RefreshesEach, judgements_cells}
use Rattle.keep_sql.specs.declared.known.Known.{Known}
use Rattle.keep_sql.specs.Reading.{rows_in, site_in, outcomes_in, edition_in, Recalls}
use Rattle.keep_sql.specs.Writing.{PutsOver}
use Rattle.keep_sql.proofs.Ready.{ready_same}
use Rattle.keep_sql.proofs.Checking.{is_read}

-- what is made of rows that are as they were
pub from_same : (Change : Stored → Stored → Type 0) (a b c : State) → b.now ≡ a.now → Makes Change b c → Makes Change a c
from_same Change a b c same made = record { ready = made.ready; change = subst (λ (d : Database). Change (stored d.trees) (rows_in c)) same made.change }

-- rows of other tables don't tell the outcomes of a page
still_shown : (site page : List ℕ) (kept : Outcomes) (a b c : State) → b.now ≡ a.now → (rows_in c).outcomes ≡ (rows_in b).outcomes → outcomes_in site page a ≡ Some kept → outcomes_in site page c ≡ Some kept
still_shown site page kept a b c same stay shown =
    ap (λ (rows : List Row). outcomes_shown (outcomes_at site page (record (rows_in b) { outcomes = rows }))) stay
    ∙ ap (λ (d : Database). outcomes_shown (outcomes_at site page (stored d.trees))) same ∙ shown

-- nor does a site's row
pub recalled_behind_site : (known : Option Known) (site : List ℕ) (counter : ℤ) (a b c : State) → IsUnchanged a b → Makes (PutsSite site counter) b c → Recalls known a → Recalls known c
recalled_behind_site None site counter a b c same made recalls = tt
recalled_behind_site (Some k) site counter a b c same made recalls = λ is_open. still_shown k.site k.page k.outcomes a b c same.0.now_is (ap (λ (s : Stored). s.outcomes) made.change.0) (recalls same.0.was_open)

-- names that are the same
pub renamed : (site page name page_name : List ℕ) (outcomes : Outcomes) (a b : State) → name ≡ site → page_name ≡ page
    → Makes (ChangesOutcomes name page_name (λ _. outcome_rows name page_name outcomes)) a b → Makes (ChangesOutcomes site page (λ _. outcome_rows site page outcomes)) a b
renamed site page name page_name outcomes a b one two made =
    subst (λ n. Makes (ChangesOutcomes n page (λ _. outcome_rows n page outcomes)) a b) one (subst (λ n. Makes (ChangesOutcomes name n (λ _. outcome_rows name n outcomes)) a b) two made)

module _ (site : List ℕ) (put : PagePut) where
  -- a page's row comes in place of the one of its name
  abbrev pub PutsRow : Stored → Stored → Type 0
  PutsRow old new = (bytes : List ℕ) × (kept_tree bytes ≡ Ok put.page.tree) × ChangesPages site (put_row (name_at 1) (page_cells site put.page bytes)) old new

  pub shown_behind_page : (kept : Outcomes) (a b c : State) → b.now ≡ a.now → Makes PutsRow b c → outcomes_in site put.page.head.page a ≡ Some kept → outcomes_in site put.page.head.page c ≡ Some kept
  shown_behind_page kept a b c same paged = still_shown site put.page.head.page kept a b c same (ap (λ (s : Stored). s.outcomes) paged.change.2.0)

  pub page_over : (a b c d : State) → b.now ≡ a.now → ReadsPage site put.page.head.page (rows_in a) → Makes PutsRow b c
      → Makes (ChangesOutcomes site put.page.head.page (λ _. outcome_rows site put.page.head.page put.outcomes)) c d → Makes (PutsOver site put) a d
  page_over a b c d same reads row audited =
      let old = rows_in a in
      let mid = rows_in c in
      let new = rows_in d in
      let paged = (from_same PutsRow a b c same row).change in
      let pages_stay : mid.pages ≡ new.pages = sym (ap (λ (s : Stored). s.pages) audited.change.0) in
      let outcomes_stay : mid.outcomes ≡ old.outcomes = ap (λ (s : Stored). s.outcomes) paged.2.0 in
      record {
        ready = audited.ready;
        change = (
          reads,
          record {
            bytes = paged.0;
            written = paged.1;
            same = audited.change.0 ∙ ap (λ (s : Stored). record s { outcomes = new.outcomes }) paged.2.0 ∙ ap (λ (rows : List Row). record old { pages = rows; outcomes = new.outcomes }) pages_stay;
            pages = subst (λ (rows : List Row). Changes (site ∷ []) (put_row (name_at 1) (page_cells site put.page paged.0)) old.pages rows) pages_stay paged.2.1;
            outcomes = record { there = audited.change.1.there; elsewhere = audited.change.1.elsewhere ∙ ap (rows_outside (site ∷ put.page.head.page ∷ [])) outcomes_stay };
          },
        );
      }

module _ (site page : List ℕ) (place : ℕ) (added : List Judgement) where
  -- judgements come to a page from a place on
  abbrev pub AddsRows : Stored → Stored → Type 0
  AddsRows = ChangesJudgements site page (put_rows (name_at 2) (judgements_cells site page place added))

  pub shown_behind_judgements : (kept : Outcomes) (a b c : State) → b.now ≡ a.now → Makes AddsRows b c → outcomes_in site page a ≡ Some kept → outcomes_in site page c ≡ Some kept
  shown_behind_judgements kept a b c same judged = still_shown site page kept a b c same (ap (λ (s : Stored). s.outcomes) judged.change.0)

  pub judgements_over : (outcomes : Outcomes) (a b c d : State) → b.now ≡ a.now → place ≡ suc (length (judgements_at site page (rows_in a))) → ReadsJudged site page (rows_in a) → Makes AddsRows b c
      → Makes (ChangesOutcomes site page (λ _. outcome_rows site page outcomes)) c d → Makes (Applies (AddJudgements site page added outcomes)) a d
  judgements_over outcomes a b c d same is reads row audited =
      let old = rows_in a in
      let mid = rows_in c in
      let new = rows_in d in
      let judged = (from_same AddsRows a b c same row).change in
      let judgements_stay : mid.judgements ≡ new.judgements = sym (ap (λ (s : Stored). s.judgements) audited.change.0) in
      let outcomes_stay : mid.outcomes ≡ old.outcomes = ap (λ (s : Stored). s.outcomes) judged.0 in
      let from_place : Changes (site ∷ page ∷ []) (put_rows (name_at 2) (judgements_cells site page place added)) old.judgements new.judgements =
      subst (λ (rows : List Row). Changes (site ∷ page ∷ []) (put_rows (name_at 2) (judgements_cells site page place added)) old.judgements rows) judgements_stay judged.1 in
      record {
        ready = audited.ready;
        change = (
          reads,
          record {
            same = audited.change.0 ∙ ap (λ (s : Stored). record s { outcomes = new.outcomes }) judged.0 ∙ ap (λ (rows : List Row). record old { judgements = rows; outcomes = new.outcomes }) judgements_stay;
            judgements = subst (λ n. Changes (site ∷ page ∷ []) (put_rows (name_at 2) (judgements_cells site page n added)) old.judgements new.judgements) is from_place;
            outcomes = record { there = audited.change.1.there; elsewhere = audited.change.1.elsewhere ∙ ap (rows_outside (site ∷ page ∷ [])) outcomes_stay };
          },
        );
      }

-- ---- a site

abbrev pub PutsMembers : Site → Stored → Stored → Type 0
PutsMembers site = ChangesMembers site.name (λ _. put_rows (name_at 1) (map (member_cells site.name) site.members) [])

abbrev pub Lists : List ℕ → List (List ℕ) → Stored → Stored → Type 0
Lists site langs = ChangesLanguages site (λ _. language_rows site langs)

moved : (group : List (List ℕ)) (f : List Row → List Row) (x y x' y' : List Row) → x ≡ x' → y ≡ y' → Changes group f x y → Changes group f x' y'
moved group f x y x' y' one two h = subst (λ (rows : List Row). Changes group f x' rows) two (subst (λ (rows : List Row). Changes group f rows y) one h)

-- its row, its members and its languages take the place of those that it had, which read
pub site_over : (site : Site) (a b c d e : State) → b.now ≡ a.now → ReadsSite site.name (rows_in a) → Makes (PutsSite site.name (pos site.counter)) b c → Makes (PutsMembers site) c d
    → Makes (Lists site.name site.languages) d e → Makes (Applies (PutSite site)) a e
site_over site a b c d e same reads row members languages =
    let old = rows_in a in
    let first = rows_in c in
    let second = rows_in d in
    let new = rows_in e in
    let sited = (from_same (PutsSite site.name (pos site.counter)) a b c same row).change in
    let sites_stay : first.sites ≡ new.sites = sym (ap (λ (s : Stored). s.sites) languages.change.0 ∙ ap (λ (s : Stored). s.sites) members.change.0) in
    let members_stay : second.members ≡ new.members = sym (ap (λ (s : Stored). s.members) languages.change.0) in
    let members_were : first.members ≡ old.members = ap (λ (s : Stored). s.members) sited.0 in
    let languages_were : second.languages ≡ old.languages = ap (λ (s : Stored). s.languages) members.change.0 ∙ ap (λ (s : Stored). s.languages) sited.0 in
    record {
      ready = languages.ready;
      change = (
        reads,
        record {
          same = languages.change.0 ∙ ap (λ (s : Stored). record s { languages = new.languages }) members.change.0
              ∙ ap (λ (s : Stored). record s { members = second.members; languages = new.languages }) sited.0
              ∙ ap₂ (λ (ss ms : List Row). record old { sites = ss; members = ms; languages = new.languages }) sites_stay members_stay;
          sites = subst (λ (rows : List Row). Changes [] (put_row (name_at 0) (site_cells site)) old.sites rows) sites_stay sited.1;
          members = moved (site.name ∷ []) (λ _. put_rows (name_at 1) (map (member_cells site.name) site.members) []) first.members second.members old.members new.members members_were members_stay members.change.1;
          languages = subst (λ (rows : List Row). Changes (site.name ∷ []) (λ _. language_rows site.name site.languages) rows new.languages) languages_were languages.change.1;
        },
      );
    }

-- ---- new outcomes

module _ (site : List ℕ) (one : PageOutcomes) where
  -- of a page that is there
  abbrev pub RefreshesThere : Stored → Stored → Type 0
  RefreshesThere old new = is_page old site one.page ≡ true → RefreshesOne site one old new

  pub refreshed_over : (kept : Outcomes) (a b c : State) → b.now ≡ a.now → outcomes_in site one.page a ≡ Some kept → Makes (ChangesOutcomes site one.page (λ _. outcome_rows site one.page one.outcomes)) b c
      → Makes RefreshesThere a c
  refreshed_over kept a b c same shown made =
      let h = from_same (ChangesOutcomes site one.page (λ _. outcome_rows site one.page one.outcomes)) a b c same made in
      record { ready = h.ready; change = λ there. inl (there, is_read (outcomes_in site one.page a) kept shown, h.change.0, h.change.1) }

  pub refreshes_there : (a b c : State) → IsUnchanged a b → is_page (rows_in a) site one.page ≡ true → Makes RefreshesThere b c → Makes (RefreshesOne site one) a c
  refreshes_there a b c same there made = let h = from_same RefreshesThere a b c same.0.now_is made in record { ready = h.ready; change = h.change there }

  pub refreshes_none : (a b : State) → IsReady a → IsUnchanged a b → is_page (rows_in a) site one.page ≡ false → Makes (RefreshesOne site one) a b
  refreshes_none a b ready same none = record { ready = ready_same a b ready same; change = inr (none, ap (λ (d : Database). stored d.trees) same.0.now_is) }

-- a site's pages get new outcomes, and it a list of languages before them
pub relisted_over : (site : List ℕ) (langs : List (List ℕ)) (os : List PageOutcomes) (a b c d : State) → b.now ≡ a.now → is_site (rows_in a) site ≡ true → IsSome (site_in site a)
    → Makes (Lists site langs) b c → Makes (RefreshesEach site os) c d → Makes (Applies (PutLanguages site langs os)) a d
relisted_over site langs os a b c d same kept reads made each =
    let listed = (from_same (Lists site langs) a b c same made).change in
    record { ready = each.ready; change = record { kept = kept; reads = reads; mid = rows_in c; same = listed.0; languages = listed.1; each = each.change } }

-- ---- the edition

abbrev pub NotesAnew : ℕ → Stored → Stored → Type 0
NotesAnew number = ChangesEditions (λ _. put_row (name_at 0) (Int (pos number) ∷ []) [])

pub edition_over : (number : ℕ) (a b c : State) → b.now ≡ a.now → IsSome (edition_in a) → Makes (NotesAnew number) b c → Makes (Applies (SetEdition number)) a c
edition_over number a b c same reads made =
    let noted = (from_same (NotesAnew number) a b c same made).change in
    record { ready = made.ready; change = record { reads = reads; same = noted.0; editions = noted.1 } }
