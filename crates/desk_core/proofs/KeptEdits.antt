-- What is decided on edits of a page, by the outcomes that are kept of it.
use Rattle.std.proofs.Common.{◌≡◌, ℕ, ◌≤◌, List, [], ◌∷◌, inl, inr, Option, Some, None, Result, Ok, Err, IsTrue, IsSome, IfSome, IfOk, IsErrOf, option_map, refl, sym, ap, subst, ◌∙◌}
use Rattle.snap_tree.specs.Trees.{Document, with_trees, with_langs}
use Rattle.snap_edit.specs.declared.edit.Edit.{Edit}
use Rattle.rule_core.specs.Books.{Book}
use Rattle.web_address.specs.Address.{IsWebAddress}
use Rattle.keep_core.specs.declared.page.Page.{Page}
use Rattle.keep_core.specs.declared.page.PagePut.{PagePut}
use Rattle.keep_core.specs.declared.site.Site.{Site}
use Rattle.keep_core.specs.declared.change.Change.{Change}
use Rattle.keep_core.specs.declared.change.Change.TheVariants.{PutSite, PutPages, DropPage, AddJudgements, PutLanguages, Refresh, SetEdition}
use Rattle.keep_core.specs.declared.limits.TheConstants.{MOST_REVISION}
use Rattle.keep_core.specs.declared.tables.KeptPage.{KeptPage}
use Rattle.keep_core.specs.declared.tables.KeptSite.{KeptSite}
use Rattle.keep_core.specs.Fits.{FitsPage, Fits, IsThere}
use Rattle.keep_core.specs.Names.{is_name}
use Rattle.keep_core.specs.declared.tables.Tables.{Tables}
use Rattle.keep_core.specs.Tables.{kept_site, outcomes_of}
use Rattle.desk_core.specs.declared.command.Command.TheVariants as command
use Rattle.desk_core.specs.declared.decided.Decided.{Decided}
use Rattle.desk_core.specs.declared.refusal.Needed.TheVariants as needed
use Rattle.desk_core.specs.declared.refusal.Refusal.{Refusal}
use Rattle.desk_core.specs.declared.refusal.Refusal.TheVariants as refusal
use Rattle.desk_core.specs.declared.reply.Reply.{Reply}
use Rattle.desk_core.specs.declared.reply.Reply.TheVariants as reply
use Rattle.desk_core.specs.Pages.{storing, edit_page}
use Rattle.desk_core.specs.Refusals.{Decision}
use Rattle.desk_core.specs.State.{page_state, state_of}
use Rattle.desk_core.specs.Steps.{Request}
use Rattle.desk_core.specs.Told.{Told}
use Rattle.desk_core.specs.Serving.{Stands, Agrees, Edits, PutsInto, KeepsEdition, FitsListed, IsStored, IsAccepted, Accepts, IsFirm, Decides, Finds, FindsWhole, IsTrueTo}
use Rattle.desk_core.proofs.Fitted.{one_fits}
use Rattle.desk_core.proofs.Onward.{untold, agrees_with, only_read, read_as, found_next, decides_not_found}
use Rattle.desk_core.proofs.ReadLaws.{found_is_true}

-- ---- a page that is put

pub edited_fits : (page hand : List ℕ) (rev : ℕ) (tree : Document) (kept p : Page) → IsTrue (is_name page) → rev ≤ MOST_REVISION → kept.tree.address ≡ tree.address → FitsListed kept
    → p ≡ record { head = record { page = page; rev = rev; hand = hand }; tree = with_langs tree [] } → FitsPage p
edited_fits page hand rev tree kept p named within address fits is =
    let web = subst IsWebAddress address fits.address in
    subst FitsPage (sym is) (record { head = record { page = named; rev = within }; address = web; no_langs = refl })

pub edits_by : (book : Book) (site page : List ℕ) (put : PagePut) (result : Result Decided Refusal) → IsTrue (is_name site) → FitsPage put.page → put.page.head.page ≡ page
    → Agrees ⊥ result (storing book site put.page.head.rev put) → Edits site page result
edits_by book site page put (Ok d) named fits is agrees =
    let P : Decision → Type 0 = Edits site page in
    subst P agrees ((one_fits site put.page.head.rev put named fits.head.rev fits, refl), is)
edits_by book site page put (Err r) named fits is stands =
    let P : Refusal → Type 0 = λ r. Stands ⊥ r (storing book site put.page.head.rev put) in
    λ fault. subst P fault stands

-- a refusal that stands where no keeper is asked
pub edits_refused : (site page : List ℕ) (r : Refusal) (decision : Decision) → Stands ⊥ r decision → Edits site page (Err r)
edits_refused site page r decision stands =
    let P : Refusal → Type 0 = λ r. Stands ⊥ r decision in
    λ is. subst P is stands

-- ---- an edit that is answered

no_fault_of : (site page : List ℕ) (result : Result Decided Refusal) → Edits site page result → IsErrOf result refusal.KeeperFault → ⊥
no_fault_of site page (Ok d) e is = cc
no_fault_of site page (Err r) e is = e (let same : r ≡ refusal.KeeperFault = cc in same)

change_fits : (site : List ℕ) (change : Option Change) → IfSome change (λ c. Fits c × PutsInto site c) → IfSome change Fits
change_fits site None is = tt
change_fits site (Some c) is = is.0

all_fit : (site page : List ℕ) (result : Result Decided Refusal) → Edits site page result → IfOk result (λ d. IfSome d.change Fits)
all_fit site page (Ok d) e = change_fits site d.change e.0
all_fit site page (Err r) e = tt

there_of : (site : List ℕ) (t : Tables) → IsSome (kept_site site t) → (change : Option Change) → IfSome change (λ c. Fits c × PutsInto site c) → IfSome change (λ c. IfSome (Some t) (IsThere c))
there_of site t kept None is = tt
there_of site t kept (Some (PutSite s)) is = absurd is.1
there_of site t kept (Some (PutPages s counter pages)) is = let P : List ℕ → Type 0 = λ n. IsSome (kept_site n t) in subst P (sym is.1) kept
there_of site t kept (Some (DropPage s p)) is = absurd is.1
there_of site t kept (Some (AddJudgements s p js o)) is = absurd is.1
there_of site t kept (Some (PutLanguages s langs new)) is = absurd is.1
there_of site t kept (Some (Refresh s new)) is = absurd is.1
there_of site t kept (Some (SetEdition number)) is = absurd is.1

-- and the edition stays
keeps_of : (site : List ℕ) (change : Option Change) → IfSome change (λ c. Fits c × PutsInto site c) → IfSome change KeepsEdition
keeps_of site None is = tt
keeps_of site (Some (PutSite s)) is = absurd is.1
keeps_of site (Some (PutPages s counter pages)) is = tt
keeps_of site (Some (DropPage s p)) is = absurd is.1
keeps_of site (Some (AddJudgements s p js o)) is = absurd is.1
keeps_of site (Some (PutLanguages s langs new)) is = absurd is.1
keeps_of site (Some (Refresh s new)) is = absurd is.1
keeps_of site (Some (SetEdition number)) is = absurd is.1

all_keep : (site page : List ℕ) (result : Result Decided Refusal) → Edits site page result → IfOk result (λ d. IfSome d.change KeepsEdition)
all_keep site page (Ok d) e = keeps_of site d.change e.0
all_keep site page (Err r) e = tt

there_in : (o : Option KeptSite) (s : Site) → option_map (λ (k : KeptSite). k.site) o ≡ Some s → IsSome o
there_in None s is = cc
there_in (Some k) s is = refl

all_there : (site page : List ℕ) (new : Option Tables) → ((t : Tables) → new ≡ Some t → IsSome (kept_site site t)) → (result : Result Decided Refusal) → Edits site page result
    → IfOk result (λ d. IfSome d.change (λ change. IfSome new (IsThere change)))
all_there site page None kept (Ok d) e = untold d.change
all_there site page None kept (Err r) e = tt
all_there site page (Some t) kept (Ok d) e = there_of site t (kept t refl) d.change e.0
all_there site page (Some t) kept (Err r) e = tt

stored_accepted : (page : List ℕ) (r : Reply) → IsStored page r → IsAccepted r
stored_accepted name (reply.Stored s) is = tt
stored_accepted name other is = absurd is

all_accepted : (site page : List ℕ) (result : Result Decided Refusal) → Edits site page result → Accepts result
all_accepted site page (Ok d) e = stored_accepted page d.reply e.1
all_accepted site page (Err r) e = tt

module _ (book : Book) (site caller page : List ℕ) (rev : ℕ) (edits : List Edit) where
  abbrev editing : Request
  editing = record { caller = caller; command = command.EditPage site page rev edits }

  -- an edit rests on what is kept, whatever that is
  all_firm : (new : Option Tables) (result : Result Decided Refusal) → Edits site page result → IfOk result (IsFirm book editing new)
  all_firm new (Ok d) e = inr (inl (inr (inl e.1)))
  all_firm new (Err r) e = tt

  pub decides_edit : (old new : Told) (s : Site) (kept : KeptPage) (result : Result Decided Refusal)
      → FindsWhole needed.Editor caller site page old new (Ok (s, kept))
      → (IsTrueTo book kept → Agrees ⊥ result (edit_page book site caller page rev edits s (page_state kept))) → Edits site page result
      → Decides book editing old new result
  decides_edit old new s kept result finds agrees e = record {
    reads = only_read old new (let r : Result (Site × KeptPage) Refusal = Ok (s, kept) in r) result (λ is. absurd (no_fault_of site page result e is)) finds.reads;
    agrees =
        λ t told sound.
        let f = finds.found t told in
        agrees_with result (edit_page book site caller page rev edits s (page_state kept)) _
        (found_next book editing needed.Editor site page (λ s p. edit_page book site caller page rev edits s p) (λ t. refl) t s (page_state kept) f.0 f.1)
        (agrees (found_is_true book t sound site page kept f.1 f.2));
    fits = all_fit site page result e;
    there = all_there site page new.tables (λ t told. there_in (kept_site site t) s (finds.found t told).0.kept) result e;
    accepted = all_accepted site page result e;
    edition = all_keep site page result e;
    firm = all_firm new.tables result e;
  }

  pub decides_no_edit : (old new : Told) (r : Refusal) → FindsWhole needed.Editor caller site page old new (Err r)
      → Decides book editing old new (Err r)
  decides_no_edit old new r finds =
      decides_not_found book editing needed.Editor site page (λ s p. edit_page book site caller page rev edits s p) (λ t. refl) old new r
      (record { reads = read_as old new r finds.reads; fits = tt; found = tt; refused = finds.refused })
