-- What is decided on reading a site's pages: all of them are read, and what is shown of them is true where the tables are sound.
use Rattle.std.proofs.Common.{◌≡◌, ℕ, List, [], ◌∷◌, map, Option, Some, None, Result, Ok, Err, IfSome, inl, refl, sym, ap, subst, ◌∙◌}
use Rattle.std.specs.List.{All}
use Rattle.std.proofs.lemmas.List.Elements.{All-nil, All-head, All-tail}
use Rattle.named_rows.proofs.Lookups.{all_at}
use Rattle.rule_core.specs.Books.{Book}
use Rattle.keep_core.specs.declared.site.Site.{Site}
use Rattle.keep_core.specs.declared.tables.KeptPage.{KeptPage}
use Rattle.keep_core.specs.declared.tables.KeptSite.{KeptSite}
use Rattle.keep_core.specs.declared.tables.Tables.{Tables}
use Rattle.keep_core.specs.Tables.{site_name, kept_site, pages_in, pages_of, languages_in, languages_of}
use Rattle.keep_core.specs.Fits.{Fits, IsThere}
use Rattle.desk_core.specs.declared.decided.Decided.{Decided}
use Rattle.desk_core.specs.declared.refusal.Needed.TheVariants.{Reader}
use Rattle.desk_core.specs.declared.refusal.Refusal.{Refusal}
use Rattle.desk_core.specs.declared.reply.Reply.{Reply}
use Rattle.desk_core.specs.declared.reply.Sheet.{Sheet}
use Rattle.desk_core.specs.declared.sheets.SheetForm.{SheetForm}
use Rattle.desk_core.specs.declared.sheets.SheetForm.TheVariants as form
use Rattle.desk_core.specs.State.{kept_listed, state_of, site_at}
use Rattle.desk_core.specs.Reading.{answered, site_page, sheet}
use Rattle.desk_core.specs.Steps.{read_site, decided}
use Rattle.desk_core.specs.Soundness.{IsSound, IsSoundSite, IsSoundPage}
use Rattle.desk_core.specs.Told.{Told}
use Rattle.desk_core.specs.Serving.{Stands, IsIn, IsAccepted, KeepsEdition, Decides}
use Rattle.kept_pages.specs.KeptPages.{shown, site_pages}
use Rattle.kept_pages.proofs.Found.{all_found}
use Rattle.desk_core.specs.Sheets.{sheet_asked, sheet_reply, ReadsSheet}
use Rattle.desk_core.proofs.Views.{state_pages}
use Rattle.desk_core.proofs.Ways.{entered}
use Rattle.desk_core.proofs.Onward.{only_read, read_as}
use Rattle.desk_core.proofs.ReadLaws.{shown_is}

-- ---- what is shown of a page is true

true_all : (book : Book) (langs : List (List ℕ)) (rows : List KeptPage) → All (IsSoundPage book langs) rows → map (site_page book) (state_pages langs rows) ≡ map shown rows
true_all book langs [] sound = refl
true_all book langs (p ∷ rows) sound =
    let first : IsSoundPage book langs p = All-head (IsSoundPage book langs) p rows sound in
    ap (λ s. s ∷ map (site_page book) (state_pages langs rows)) (shown_is book (kept_listed langs p) (shown p) refl first.told)
    ∙ ap (λ rest. shown p ∷ rest) (true_all book langs rows (All-tail (IsSoundPage book langs) p rows sound))

sound_in : (book : Book) (o : Option KeptSite) → IfSome o (IsSoundSite book) → All (IsSoundPage book (languages_in o)) (pages_in o)
sound_in book None sound = All-nil (IsSoundPage book [])
sound_in book (Some s) sound = sound.pages

pub sheet_shows : (book : Book) (caller site : List ℕ) (t : Tables) (s : Site) (read : Sheet) → IsSound book t → IsIn Reader caller site s t
    → read.pages ≡ site_pages site t → read.site ≡ site
    → (reply : Sheet → Reply) → read_site caller (site_at site (state_of t)) (λ s. reply (sheet book site s)) ≡ answered (reply read)
sheet_shows book caller site t s read sound is pages_read named reply =
    entered Reader caller site t s (λ k. answered (reply (sheet book site k))) (answered (reply read)) is (λ k kept same.
    let there : All (IsSoundPage book (languages_of site t)) (pages_of site t) = sound_in book (kept_site site t) (all_at site_name (IsSoundSite book) site t.sites sound.sites) in
    let seen : map (site_page book) (state_pages k.site.languages k.pages) ≡ read.pages =
    sym (ap (λ (o : Option KeptSite). map (site_page book) (state_pages (languages_in o) (pages_in o))) kept)
    ∙ (true_all book (languages_of site t) (pages_of site t) there ∙ (sym (all_found site t sound.fit) ∙ sym pages_read))
    in
    ap (λ pages. answered (reply (let made : Sheet = record { site = site; pages = pages } in made))) seen
    ∙ ap (λ name. answered (reply (let made : Sheet = record { site = name; pages = read.pages } in made))) (sym named))

-- ---- the request

pub decided_sheet : (book : Book) (caller site : List ℕ) (asked : SheetForm) (t : Tables)
    → decided book (record { caller = caller; command = sheet_asked asked site }) (state_of t)
    ≡ read_site caller (site_at site (state_of t)) (λ s. sheet_reply asked (sheet book site s))
decided_sheet book caller site form.Report t = refl
decided_sheet book caller site form.Earl t = refl
decided_sheet book caller site form.Csv t = refl

sheet_accepted : (asked : SheetForm) (read : Sheet) → IsAccepted (sheet_reply asked read)
sheet_accepted form.Report read = tt
sheet_accepted form.Earl read = tt
sheet_accepted form.Csv read = tt

module _ (book : Book) (caller site : List ℕ) (asked : SheetForm) (old new : Told) where
  pub decides_sheet : (read : Sheet) (d : Decided) → d ≡ record { change = None; reply = sheet_reply asked read }
      → ReadsSheet book caller site old new (Ok read) → Decides book (record { caller = caller; command = sheet_asked asked site }) old new (Ok d)
  decides_sheet read d same reads = record {
    reads = only_read old new (let r : Result Sheet Refusal = Ok read in r) (let r : Result Decided Refusal = Ok d in r) (λ e. cc) reads.reads;
    agrees = λ t told sound. decided_sheet book caller site asked t ∙ (reads.shows t told sound (sheet_reply asked) ∙ ap Ok (sym same));
    fits = let P : Decided → Type 0 = λ e. IfSome e.change Fits in subst P (sym same) tt;
    there = let P : Decided → Type 0 = λ e. IfSome e.change (λ change. IfSome new.tables (IsThere change)) in subst P (sym same) tt;
    accepted = let P : Decided → Type 0 = λ e. IsAccepted e.reply in subst P (sym same) (sheet_accepted asked read);
    edition = let P : Decided → Type 0 = λ e. IfSome e.change KeepsEdition in subst P (sym same) tt;
    firm = inl (ap (λ (e : Decided). e.change) same);
  }

  pub decides_no_sheet : (r : Refusal) → ReadsSheet book caller site old new (Err r)
      → Decides book (record { caller = caller; command = sheet_asked asked site }) old new (Err r)
  decides_no_sheet r reads = record {
    reads = read_as old new r reads.reads;
    agrees = λ t told sound. subst (Stands (Unit {0}) r) (sym (decided_sheet book caller site asked t)) (reads.shows t told sound (sheet_reply asked));
    fits = tt;
    there = tt;
    accepted = tt;
    edition = tt;
    firm = tt;
  }
