-- What is decided where something that is kept is told: a reply alone.
use Rattle.std.proofs.Common.{◌≡◌, ℕ, List, [], ◌∷◌, map, Option, Some, None, option_map, Result, Ok, Err, IfSome, IsErrAnd, inl, refl, sym, ap, subst, ◌∙◌}
use Rattle.std.specs.Option.{option_and_then}
use Rattle.std.specs.List.{All, cons_option, filter_map}
use Rattle.std.proofs.lemmas.List.Elements.{All-head, All-tail}
use Rattle.rule_core.specs.Books.{Book}
use Rattle.judge_core.specs.declared.outcomes.OutRow.{OutRow}
use Rattle.named_rows.proofs.Order.{at_each}
use Rattle.keep_core.specs.declared.fault.KeepFault.{KeepFault}
use Rattle.keep_core.specs.declared.fault.KeepFault.TheVariants as kept
use Rattle.keep_core.specs.declared.site.Site.{Site}
use Rattle.keep_core.specs.declared.tables.KeptPage.{KeptPage}
use Rattle.keep_core.specs.declared.tables.KeptSite.{KeptSite}
use Rattle.keep_core.specs.declared.tables.Tables.{Tables}
use Rattle.keep_core.specs.Tables.{site_name, kept_site, memberships_of, outcomes_of}
use Rattle.keep_core.specs.Fits.{Fits, FitTables, IsThere}
use Rattle.kept_verdicts.specs.declared.verdicts.KeptVerdict.{KeptVerdict}
use Rattle.kept_verdicts.specs.Verdicts.{verdicts}
use Rattle.desk_core.specs.declared.decided.Decided.{Decided}
use Rattle.desk_core.specs.declared.refusal.Needed.TheVariants.{Reader}
use Rattle.desk_core.specs.declared.refusal.Refusal.{Refusal}
use Rattle.desk_core.specs.declared.reply.PageVerdicts.{PageVerdicts}
use Rattle.desk_core.specs.declared.reply.Reply.{Reply}
use Rattle.desk_core.specs.declared.reply.Reply.TheVariants as reply
use Rattle.desk_core.specs.Refusals.{Decision, of_keep_fault}
use Rattle.desk_core.specs.State.{page_state, site_state, state_of, site_at}
use Rattle.desk_core.specs.Reading.{answered}
use Rattle.desk_core.specs.Verdicts.{page_verdicts}
use Rattle.desk_core.specs.Memberships.{membership, memberships}
use Rattle.desk_core.specs.Steps.{Request, read_page, read_site, decided}
use Rattle.desk_core.specs.Soundness.{IsSound}
use Rattle.desk_core.specs.Told.{Told}
use Rattle.desk_core.specs.Serving.{Stands, IsAccepted, KeepsEdition, OnlyReads, IsIn, IsTrueTo, Decides, page_in}
use Rattle.desk_core.proofs.Ways.{entered, followed}
use Rattle.desk_core.specs.ToldReads.{ReadsVerdicts}
use Rattle.desk_core.proofs.Onward.{only_read, read_as, refused_so}
use Rattle.desk_core.proofs.ReadLaws.{found_is_true}

-- ---- a request that is answered by what was read

module _ {A : Type 0} (book : Book) (request : Request) (make : A → Reply) (old new : Told) where
  pub decides_told : (read : A) (d : Decided) → d ≡ record { change = None; reply = make read } → IsAccepted (make read)
      → OnlyReads old new (let r : Result A Refusal = Ok read in r)
      → ((t : Tables) → new.tables ≡ Some t → IsSound book t → decided book request (state_of t) ≡ answered (make read))
      → Decides book request old new (Ok d)
  decides_told read d same accepted reads agrees = record {
    reads = only_read old new (let r : Result A Refusal = Ok read in r) (let r : Result Decided Refusal = Ok d in r) (λ e. cc) reads;
    agrees = λ t told sound. agrees t told sound ∙ ap Ok (sym same);
    fits = let P : Decided → Type 0 = λ e. IfSome e.change Fits in subst P (sym same) tt;
    there = let P : Decided → Type 0 = λ e. IfSome e.change (λ change. IfSome new.tables (IsThere change)) in subst P (sym same) tt;
    accepted = let P : Decided → Type 0 = λ e. IsAccepted e.reply in subst P (sym same) accepted;
    edition = let P : Decided → Type 0 = λ e. IfSome e.change KeepsEdition in subst P (sym same) tt;
    firm = inl (ap (λ (e : Decided). e.change) same);
  }

  pub decides_untold : (r : Refusal) → OnlyReads old new (let e : Result A Refusal = Err r in e)
      → ((t : Tables) → new.tables ≡ Some t → IsSound book t → Stands (Unit {0}) r (decided book request (state_of t)))
      → Decides book request old new (Err r)
  decides_untold r reads stands = record {
    reads = read_as old new r reads;
    agrees = stands;
    fits = tt;
    there = tt;
    accepted = tt;
    edition = tt;
    firm = tt;
  }

-- a fault of the keeper's stands against any decision
pub fault_stands : (f : KeepFault) (decision : Decision) → Stands (Unit {0}) (of_keep_fault f) decision
fault_stands kept.Failed decision = tt
fault_stands kept.OutOfMemory decision = tt

-- ---- the judgements of a page

pub verdicts_are : (book : Book) (k : KeptPage) (told : List KeptVerdict) → told ≡ verdicts k.outcomes.rows k.judgements → IsTrueTo book k
    → page_verdicts book (page_state k) ≡ record { rev = k.page.head.rev; verdicts = told }
verdicts_are book k told are holds =
    ap (λ (rows : List OutRow). let p : PageVerdicts = record { rev = k.page.head.rev; verdicts = verdicts rows k.judgements } in p) (sym holds)
    ∙ ap (λ (vs : List KeptVerdict). let p : PageVerdicts = record { rev = k.page.head.rev; verdicts = vs } in p) (sym are)

pub verdicts_shown : (book : Book) (caller site page : List ℕ) (t : Tables) (s : Site) (k : KeptPage) (told : List KeptVerdict) → IsSound book t → IsIn Reader caller site s t
    → page_in site page t ≡ Some (page_state k) → outcomes_of site page t ≡ k.outcomes → told ≡ verdicts k.outcomes.rows k.judgements
    → (make : PageVerdicts → Reply)
    → read_page caller page (site_at site (state_of t)) (λ p. make (page_verdicts book p)) ≡ answered (make (record { rev = k.page.head.rev; verdicts = told }))
verdicts_shown book caller site page t s k told sound is there has are make =
    followed Reader caller site page t s (Some (page_state k)) (λ _ p. answered (make (page_verdicts book p))) (answered (make (record { rev = k.page.head.rev; verdicts = told }))) is there
    (λ _ _ _. ap (λ (p : PageVerdicts). answered (make p)) (verdicts_are book k told are (found_is_true book t sound site page k there has)))

pub verdicts_so : {book : Book} {caller site page : List ℕ} {old new : Told} {result : Result PageVerdicts Refusal} (r : Refusal)
    → IsErrAnd result (λ s. s ≡ r) → ReadsVerdicts book caller site page old new (Err r) → ReadsVerdicts book caller site page old new result
verdicts_so {book} {caller} {site} {page} {old} {new} {result} r same holds = refused_so (λ answer. ReadsVerdicts book caller site page old new answer) result r same holds

-- ---- the members of a site

pub members_shown : (caller site : List ℕ) (t : Tables) (s : Site) → IsIn Reader caller site s t
    → read_site caller (site_at site (state_of t)) (λ s. reply.Members s.site.members) ≡ answered (reply.Members s.members)
members_shown caller site t s is =
    entered Reader caller site t s (λ k. answered (reply.Members k.site.members)) (answered (reply.Members s.members)) is
    (λ k kept same. ap (λ (row : Site). answered (reply.Members row.members)) same)

-- ---- the memberships of a user

among_sites : (user : List ℕ) (sites : List KeptSite) → filter_map (λ s. membership user s.site) sites ≡ memberships user (map site_state sites)
among_sites user [] = refl
among_sites user (s ∷ sites) = ap (cons_option (membership user s.site)) (among_sites user sites)

-- those that a keeper answers are those of the state
pub memberships_are : (user : List ℕ) (t : Tables) → memberships_of user t ≡ memberships user (state_of t)
memberships_are user t = among_sites user t.sites
