-- What is decided on a judgement of a page that was found.
use Rattle.std.proofs.Common.{◌≡◌, ℕ, List, false, not, Option, Some, None, option_map, Result, Ok, Err, IsTrue, IsSome, IfSome, IfOk, IsErrAnd, IsErrOf, inl, inr, refl, sym, ap, subst, ◌∙◌, ◌≤◌, length, arith}
use Rattle.std.specs.Str.{bytes_eq}
use Rattle.snap_tree.specs.declared.row.NodeId.{NodeId}
use Rattle.rule_core.specs.declared.info.RuleNo.{RuleNo}
use Rattle.rule_core.specs.declared.verdict.Auto.{Auto}
use Rattle.rule_core.specs.Books.{Book}
use Rattle.judge_core.specs.declared.judgement.Judgement.{Judgement}
use Rattle.judge_core.specs.declared.outcomes.OutRow.{OutRow}
use Rattle.keep_core.specs.declared.change.Change.{Change}
use Rattle.keep_core.specs.declared.change.Change.TheVariants.{PutSite, PutPages, DropPage, AddJudgements, PutLanguages, Refresh, SetEdition}
use Rattle.keep_core.specs.declared.tables.KeptPage.{KeptPage}
use Rattle.keep_core.specs.Names.{is_name}
use Rattle.keep_core.specs.declared.tables.Tables.{Tables}
use Rattle.keep_core.specs.Tables.{kept_page, languages_of}
use Rattle.keep_core.specs.Fits.{Fits, IsThere}
use Rattle.desk_core.specs.declared.decided.Decided.{Decided}
use Rattle.desk_core.specs.declared.refusal.Needed.TheVariants as needed
use Rattle.desk_core.specs.declared.refusal.Refusal.{Refusal}
use Rattle.desk_core.specs.declared.refusal.Refusal.TheVariants as refusal
use Rattle.desk_core.specs.declared.reply.Reply.{Reply}
use Rattle.desk_core.specs.State.{PageState, page_state, state_of, site_at}
use Rattle.desk_core.specs.Rights.{entering, on_page}
use Rattle.desk_core.specs.Refusals.{Decision, unless}
use Rattle.desk_core.specs.Steps.{Request, decided}
use Rattle.earl_in.specs.declared.claim.Claim.{Claim}
use Rattle.earl_in.specs.declared.taking.Taken.{Taken}
use Rattle.earl_in.specs.Taking.{taken_of}
use Rattle.earl_in.proofs.Again.{each_counts}
use Rattle.desk_core.specs.Claiming.{added_all, taken_on, take_earl}
use Rattle.desk_core.specs.Judging.{judged_row, judge, added, AddsTo}
use Rattle.desk_core.specs.Told.{Told}
use Rattle.desk_core.specs.Serving.{Stands, Agrees, KeepsEdition, IsAccepted, IsJudged, Judges, JudgesOn, IsFirm, Decides, FindsKept, IsTrueTo}
use Rattle.desk_core.proofs.Views.{state_page}
use Rattle.desk_core.proofs.Ways.{followed}
use Rattle.desk_core.proofs.Onward.{untold, not_fault, agrees_with, only_read, read_as}
use Rattle.desk_core.proofs.ReadLaws.{found_is_true}

fits_of : (site page : List ℕ) → IsTrue (is_name site) → IsTrue (is_name page) → (change : Option Change) → IfSome change (AddsTo site page) → IfSome change Fits
fits_of site page named page_named None is = tt
fits_of site page named page_named (Some (PutSite s)) is = absurd is
fits_of site page named page_named (Some (PutPages s counter pages)) is = absurd is
fits_of site page named page_named (Some (DropPage s p)) is = absurd is
fits_of site page named page_named (Some (PutLanguages s langs new)) is = absurd is
fits_of site page named page_named (Some (Refresh s new)) is = absurd is
fits_of site page named page_named (Some (SetEdition number)) is = absurd is
fits_of site page named page_named (Some (AddJudgements s p js o)) is =
    let P : List ℕ → Type 0 = λ n. IsTrue (is_name n) in (subst P (sym is.0) named, subst P (sym is.1) page_named)

there_of : (site page : List ℕ) (t : Tables) → IsSome (kept_page site page t) → (change : Option Change) → IfSome change (AddsTo site page)
    → IfSome change (λ c. IfSome (Some t) (IsThere c))
there_of site page t kept None is = tt
there_of site page t kept (Some (PutSite s)) is = absurd is
there_of site page t kept (Some (PutPages s counter pages)) is = absurd is
there_of site page t kept (Some (DropPage s p)) is = absurd is
there_of site page t kept (Some (PutLanguages s langs new)) is = absurd is
there_of site page t kept (Some (Refresh s new)) is = absurd is
there_of site page t kept (Some (SetEdition number)) is = absurd is
there_of site page t kept (Some (AddJudgements s p js o)) is =
    let P : List ℕ → Type 0 = λ n. IsSome (kept_page n p t) in
    let Q : List ℕ → Type 0 = λ n. IsSome (kept_page site n t) in
    subst P (sym is.0) (subst Q (sym is.1) kept)

there_in : (langs : List (List ℕ)) (o : Option KeptPage) (p : PageState) → option_map (state_page langs) o ≡ Some p → IsSome o
there_in langs None p is = cc
there_in langs (Some k) p is = refl

all_fit : (site page : List ℕ) → IsTrue (is_name site) → IsTrue (is_name page) → (result : Result Decided Refusal) → IfOk result (λ d. IfSome d.change (AddsTo site page))
    → IfOk result (λ d. IfSome d.change Fits)
all_fit site page named page_named (Ok d) is = fits_of site page named page_named d.change is
all_fit site page named page_named (Err r) is = tt

-- and leaves the edition
keeps_of : (site page : List ℕ) (change : Option Change) → IfSome change (AddsTo site page) → IfSome change KeepsEdition
keeps_of site page None is = tt
keeps_of site page (Some (PutSite s)) is = absurd is
keeps_of site page (Some (PutPages s counter pages)) is = absurd is
keeps_of site page (Some (DropPage s p)) is = absurd is
keeps_of site page (Some (AddJudgements s p js o)) is = tt
keeps_of site page (Some (PutLanguages s langs new)) is = absurd is
keeps_of site page (Some (Refresh s new)) is = absurd is
keeps_of site page (Some (SetEdition number)) is = absurd is

all_keep : (site page : List ℕ) (result : Result Decided Refusal) → IfOk result (λ d. IfSome d.change (AddsTo site page)) → IfOk result (λ d. IfSome d.change KeepsEdition)
all_keep site page (Ok d) is = keeps_of site page d.change is
all_keep site page (Err r) is = tt

all_there : (site page : List ℕ) (new : Option Tables) → ((t : Tables) → new ≡ Some t → IsSome (kept_page site page t)) → (result : Result Decided Refusal)
    → IfOk result (λ d. IfSome d.change (AddsTo site page)) → IfOk result (λ d. IfSome d.change (λ change. IfSome new (IsThere change)))
all_there site page None kept (Ok d) is = untold d.change
all_there site page None kept (Err r) is = tt
all_there site page (Some t) kept (Ok d) is = there_of site page t (kept t refl) d.change is
all_there site page (Some t) kept (Err r) is = tt

-- a refusal that stands where no keeper is asked is handed on, and isn't the keeper's fault
err_no_fault : (result : Result Decided Refusal) (r : Refusal) (decision : Decision) → IsErrAnd result (λ s. s ≡ r) → Stands ⊥ r decision → IsErrOf result refusal.KeeperFault → ⊥
err_no_fault (Ok d) r decision same stands is = absurd same
err_no_fault (Err s) r decision same stands is =
    not_fault (let e : Result Decided Refusal = Err s in e) decision (subst (λ (r : Refusal). Stands ⊥ r decision) (sym same) stands) is

-- a judgement is one, whatever is kept
judged_firm : (book : Book) (request : Request) (new : Option Tables) (result : Result Decided Refusal) → Judges result → IfOk result (IsFirm book request new)
judged_firm book request new (Ok d) judges = inr (inl (inl judges))
judged_firm book request new (Err r) judges = tt

module _ (book : Book) (site caller page : List ℕ) (rule : RuleNo) (node : NodeId) (verdict : Auto) (seen note : List ℕ) where
  abbrev judgement_on : OutRow → Judgement
  judgement_on row = record { rule = rule; node = node; verdict = verdict; hand = caller; note = note; evidence = row.evidence }

  -- what is decided on the row that was found among the kept outcomes, where these are the page's
  pub judge_is : (kept : KeptPage) (row : OutRow) (j : Judgement) → IsTrueTo book kept
      → ((next : OutRow → Decision) → judged_row kept.outcomes.rows kept.page.head.hand caller rule node seen next ≡ next row) → j ≡ judgement_on row
      → judge book site caller page rule node verdict seen note (page_state kept) ≡ added book site page j (page_state kept)
  judge_is kept row j holds found same =
      let add = λ (row : OutRow). added book site page (judgement_on row) (page_state kept) in
      ap (λ rows. judged_row rows kept.page.head.hand caller rule node seen add) (sym holds)
      ∙ (found add ∙ ap (λ (k : Judgement). added book site page k (page_state kept)) (sym same))

  -- and a refusal of that row is no fault of the keeper's
  pub refused_on : (kept : KeptPage) (result : Result Decided Refusal) (r : Refusal) → IsErrAnd result (λ s. s ≡ r)
      → ((next : OutRow → Decision) → Stands ⊥ r (judged_row kept.outcomes.rows kept.page.head.hand caller rule node seen next)) → JudgesOn site page result
  refused_on kept (Ok d) r same refused = absurd same
  refused_on kept (Err s) r same refused = record {
    no_fault = err_no_fault (let e : Result Decided Refusal = Err s in e) r (judged_row kept.outcomes.rows kept.page.head.hand caller rule node seen (λ _. Err r)) same (refused (λ _. Err r));
    adds = tt;
    accepted = tt;
    judged = tt;
  }

-- what is answered is that judgements were added to the page, or were there
pub answered_on : (site page : List ℕ) (d : Decided) (said : Reply) → d.reply ≡ said → IsAccepted said → IsJudged said → IfSome d.change (AddsTo site page) → JudgesOn site page (Ok d)
answered_on site page d said is accepted judged adds = record {
  no_fault = λ same. absurd (cc);
  adds = adds;
  accepted = subst IsAccepted (sym is) accepted;
  judged = subst IsJudged (sym is) judged;
}

-- a request on a page whose kept outcomes decide it
module _ (book : Book) (request : Request) (site page : List ℕ) (next : PageState → Decision)
    (is : (t : Tables) → decided book request (state_of t) ≡ entering needed.Judge request.caller (site_at site (state_of t)) (λ s. on_page page s next)) where
  -- which was found
  pub decides_judged : (old new : Told) (kept : KeptPage) (result : Result Decided Refusal)
      → IsTrue (is_name site) → IsTrue (is_name page)
      → FindsKept needed.Judge request.caller site page old new (Ok kept)
      → (IsTrueTo book kept → Agrees ⊥ result (next (page_state kept)))
      → JudgesOn site page result
      → Decides book request old new result
  decides_judged old new kept result named page_named finds agrees judges = record {
    reads = only_read old new (let r : Result KeptPage Refusal = Ok kept in r) result (λ e. absurd (judges.no_fault e)) finds.reads;
    agrees =
        λ t told sound.
        let f = finds.found t told in
        agrees_with result (next (page_state kept)) (decided book request (state_of t))
        (is t ∙ followed needed.Judge request.caller site page t f.0 (Some (page_state kept)) (λ _ p. next p) (next (page_state kept)) f.1 f.2 (λ k has same. refl))
        (agrees (found_is_true book t sound site page kept f.2 f.3));
    fits = all_fit site page named page_named result judges.adds;
    there = all_there site page new.tables (λ t told. there_in (languages_of site t) (kept_page site page t) (page_state kept) (finds.found t told).2) result judges.adds;
    accepted = judges.accepted;
    edition = all_keep site page result judges.adds;
    firm = judged_firm book request new.tables result judges.judged;
  }

  -- and one that wasn't found
  pub decides_no_judged : (old new : Told) (r : Refusal) → FindsKept needed.Judge request.caller site page old new (Err r) → Decides book request old new (Err r)
  decides_no_judged old new r finds = record {
    reads = read_as old new r finds.reads;
    agrees = λ t told sound. subst (Stands (Unit {0}) r) (sym (is t)) (finds.refused t told (λ _ p. next p));
    fits = tt;
    there = tt;
    accepted = tt;
    edition = tt;
    firm = tt;
  }

-- what is decided on claims, where the caller didn't send the page and this is what was taken by its kept outcomes
pub take_is : (book : Book) (site caller page : List ℕ) (claims : List (Option Claim)) (kept : KeptPage) (t : Taken) → IsTrueTo book kept → bytes_eq caller kept.page.head.hand ≡ false
    → t ≡ taken_of kept.page.tree.address kept.outcomes.rows kept.judgements caller claims
    → take_earl book site caller page claims (page_state kept) ≡ added_all book site page t (page_state kept)
take_is book site caller page claims kept t holds other same =
    ap (λ b. unless (not b) refusal.SameHand (added_all book site page (taken_on book caller claims (page_state kept)) (page_state kept))) other
    ∙ ap (λ (t : Taken). added_all book site page t (page_state kept))
    (sym (same ∙ ap (λ rows. taken_of kept.page.tree.address rows kept.judgements caller claims) holds))

-- no more are added than claims come
pub few_taken : (address : List ℕ) (rows : List OutRow) (js : List Judgement) (hand : List ℕ) (claims : List (Option Claim)) (t : Taken) (most : ℕ)
    → t ≡ taken_of address rows js hand claims → length claims ≤ most → length t.added ≤ most
few_taken address rows js hand claims t most is few =
    let all = each_counts address rows js hand claims in
    subst (λ (t : Taken). length t.added ≤ most) (sym is) (omega (arith, all, few))
