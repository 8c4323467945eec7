-- What is decided on a list of languages: every page's outcomes under it, found by those that are kept.
use Rattle.std.proofs.Common.{◌≡◌, ℕ, ◌+◌, ◌≤◌, List, [], ◌∷◌, length, map, sum_by, Option, Some, None, option_map, Result, Ok, Err, IfSome, IsTrue, IsSome, inl, inr, refl, sym, ap, ◌∙◌, subst, arith}
use Rattle.std.specs.Prelude.{Vec}
use Rattle.std.specs.List.{All}
use Rattle.std.specs.Option.{option_map_or}
use Rattle.std.specs.declared.alloc.Global.{Global}
use Rattle.std.proofs.lemmas.List.{length-map}
use Rattle.std.proofs.lemmas.List.Elements.{All-nil, All-cons, All-head, All-tail}
use Rattle.std.proofs.lemmas.List.Sums.{sum_by-cons}
use Rattle.snap_tree.specs.Trees.{Document, with_langs}
use Rattle.snap_tree.specs.Langs.{AreLangs}
use Rattle.rule_core.specs.Books.{Book}
use Rattle.rule_core.specs.Reach.{affected}
use Rattle.judge_core.specs.Outcomes.{judgings}
use Rattle.named_rows.specs.ByName.{IsInOrder}
use Rattle.named_rows.proofs.Lookups.{all_at}
use Rattle.named_rows.proofs.Order.{IsBelow, in_order_cons, in_order_first, in_order_rest, in_order_none, at_each}
use Rattle.keep_core.specs.declared.site.Site.{Site}
use Rattle.keep_core.specs.declared.page.PageHead.{PageHead}
use Rattle.keep_core.specs.declared.page.PageOutcomes.{PageOutcomes}
use Rattle.keep_core.specs.declared.change.Change.TheVariants.{PutLanguages}
use Rattle.keep_core.specs.declared.tables.KeptPage.{KeptPage}
use Rattle.keep_core.specs.declared.tables.KeptSite.{KeptSite}
use Rattle.keep_core.specs.declared.tables.Tables.{Tables}
use Rattle.keep_core.specs.Fits.{Fits, FitsHeads, IsThere}
use Rattle.keep_core.specs.Keeping.{Stays}
use Rattle.keep_core.specs.Names.{is_name}
use Rattle.keep_core.specs.Tables.{kept_site, kept_page, pages_in, pages_of, heads_of, page_name, site_name, site_of}
use Rattle.kept_pages.specs.KeptPages.{head_page, whole_at}
use Rattle.desk_core.specs.Costs.{relisted_pairs, relisted_judgings, Costs}
use Rattle.desk_core.specs.declared.decided.Decided.{Decided}
use Rattle.desk_core.specs.declared.command.Command.TheVariants as command
use Rattle.desk_core.specs.declared.refusal.Needed.TheVariants.{Owner}
use Rattle.desk_core.specs.declared.refusal.Refusal.{Refusal}
use Rattle.desk_core.specs.declared.reply.Reply.TheVariants as reply
use Rattle.desk_core.specs.Languages.{relisted, put_languages}
use Rattle.desk_core.specs.Relisting.{relisted_kept, ArePages, Relists, RelistCosts}
use Rattle.desk_core.specs.Soundness.{IsSoundPage, IsSoundSite, IsSound}
use Rattle.desk_core.specs.Serving.{IsAccepted, KeepsEdition, RestsOnKept, OnlyReads, IsIn, Enters, IsTrueTo, Decides}
use Rattle.desk_core.specs.State.{SiteState, kept_listed, page_state, site_state, state_of, site_at}
use Rattle.desk_core.specs.Steps.{Request, decision}
use Rattle.desk_core.specs.Memberships.{memberships}
use Rattle.desk_core.specs.Summaries.{told}
use Rattle.desk_core.specs.Told.{Told}
use Rattle.desk_core.proofs.ByHeads.{outcomes_fit}
use Rattle.desk_core.proofs.Onward.{read_as}
use Rattle.desk_core.proofs.Views.{state_page, state_pages, site_seen}
use Rattle.desk_core.proofs.Ways.{entered, pages_are}

-- the pages of a site with its languages
abbrev pub listed_pages : List (List ℕ) → List KeptPage → List KeptPage
listed_pages langs pages = map (kept_listed langs) pages

-- those of all heads are found, each by its name
pub whole_pages_are : (site : List ℕ) (langs : List (List ℕ)) (t : Tables) (pages : List KeptPage) → All (λ (p : KeptPage). kept_page site (page_name p) t ≡ Some p) pages
    → map (whole_at site langs t) (map (λ (p : KeptPage). p.page.head) pages) ≡ map Some (listed_pages langs pages)
whole_pages_are site langs t [] each = refl
whole_pages_are site langs t (p ∷ ps) each =
    let P : KeptPage → Type 0 = λ p. kept_page site (page_name p) t ≡ Some p in
    ap (λ (o : Option KeptPage). option_map (kept_listed langs) o ∷ map (whole_at site langs t) (map (λ (p : KeptPage). p.page.head) ps)) (All-head P p ps each)
    ∙ ap (λ (rest : List (Option KeptPage)). Some (kept_listed langs p) ∷ rest) (whole_pages_are site langs t ps (All-tail P p ps each))

-- the outcomes that are kept of sound pages are true
pub all_true : (book : Book) (langs : List (List ℕ)) (pages : List KeptPage) → All (IsSoundPage book langs) pages → All (IsTrueTo book) (listed_pages langs pages)
all_true book langs [] sound = All-nil (IsTrueTo book)
all_true book langs (p ∷ ps) sound =
    All-cons (IsTrueTo book) _ _ (All-head (IsSoundPage book langs) p ps sound).told (all_true book langs ps (All-tail (IsSoundPage book langs) p ps sound))

-- the outcomes of pages under another list are those that are decided
pub same_outcomes : (book : Book) (langs old : List (List ℕ)) (pages : List KeptPage) → map (relisted_kept book langs) (listed_pages old pages) ≡ map (relisted book langs) (state_pages old pages)
same_outcomes book langs old [] = refl
same_outcomes book langs old (p ∷ ps) = ap (λ (rest : List PageOutcomes). relisted_kept book langs (kept_listed old p) ∷ rest) (same_outcomes book langs old ps)

-- what is decided in a site that was entered, by the outcomes that were found
pub relisting_is : (book : Book) (caller site : List ℕ) (langs : List (List ℕ)) (t : Tables) (s : Site) (found : List PageOutcomes) (d : Decided)
    → IsIn Owner caller site s t → found ≡ map (relisted_kept book langs) (listed_pages s.languages (pages_of site t))
    → d ≡ record { change = Some (PutLanguages site langs found); reply = reply.Languages (told (length langs)) (told (length found)) }
    → decision book caller (command.PutLanguages site langs) (site_at site (state_of t)) (memberships caller (state_of t)) ≡ Ok d
relisting_is book caller site langs t s found d is are same =
    entered Owner caller site t s (put_languages book site langs) (Ok d) is
    (λ k kept row.
    let pages = state_pages s.languages (pages_of site t) in
    let all : found ≡ map (relisted book langs) pages = are ∙ same_outcomes book langs s.languages (pages_of site t) in
    let mine : (site_state k).pages ≡ pages =
    ap (λ (r : Site). state_pages r.languages k.pages) row ∙ ap (state_pages s.languages) (sym (pages_are site t k kept)) in
    let many : length (site_state k).pages ≡ length found = ap length mine ∙ sym (length-map pages (relisted book langs)) ∙ sym (ap length all) in
    ap (λ (n : ℕ). made langs (map (relisted book langs) (site_state k).pages) n) many
    ∙ ap (λ (os : List PageOutcomes). made langs os (length found)) (ap (map (relisted book langs)) mine ∙ sym all)
    ∙ ap Ok (sym same))
  where
    made : List (List ℕ) → List PageOutcomes → ℕ → Result Decided Refusal
    made langs os pages = Ok (record { change = Some (PutLanguages site langs os); reply = reply.Languages (told (length langs)) (told pages) })

-- ---- the pages of a site, as their heads name them

abbrev pub heads_in : List KeptPage → List PageHead
heads_in pages = map (λ (p : KeptPage). p.page.head) pages

below_in : (p : KeptPage) (ps : List KeptPage) → All (IsBelow head_page p.page.head) (heads_in ps) → All (IsBelow page_name p) ps
below_in p [] below = All-nil (IsBelow page_name p)
below_in p (q ∷ qs) below =
    All-cons (IsBelow page_name p) _ _ (All-head (IsBelow head_page p.page.head) q.page.head (heads_in qs) below)
    (below_in p qs (All-tail (IsBelow head_page p.page.head) q.page.head (heads_in qs) below))

-- pages are in the order of their heads
order_in : (pages : List KeptPage) → IsInOrder head_page (heads_in pages) → IsInOrder page_name pages
order_in [] order = in_order_none page_name
order_in (p ∷ ps) order =
    in_order_cons page_name p ps (below_in p ps (in_order_first head_page p.page.head (heads_in ps) order)) (order_in ps (in_order_rest head_page p.page.head (heads_in ps) order))

-- the pages of all heads of a site are those that are kept of it, with its languages
pub all_pages : (book : Book) (site : List ℕ) (langs others : List (List ℕ)) (t : Tables) (heads : List PageHead) → FitsHeads heads → heads ≡ heads_of site t
    → ArePages book site langs others heads t (listed_pages langs (pages_of site t))
all_pages book site langs others t heads fits are =
    let order = order_in (pages_of site t) (subst (IsInOrder head_page) are fits.in_order) in
    ap (map (whole_at site langs t)) are ∙ whole_pages_are site langs t (pages_of site t) (at_each page_name (pages_of site t) order)

sound_in : (book : Book) (o : Option KeptSite) (s : Site) → IfSome o (IsSoundSite book) → option_map (λ (k : KeptSite). k.site) o ≡ Some s → All (IsSoundPage book s.languages) (pages_in o)
sound_in book None s sound is = cc
sound_in book (Some k) s sound is =
    let same : k.site ≡ s = cc in
    subst (λ (r : Site). All (IsSoundPage book r.languages) k.pages) same sound.pages

-- where tables are sound, what is kept of these pages is true
pub pages_true : (book : Book) (site : List ℕ) (t : Tables) (s : Site) → IsSound book t → site_of site t ≡ Some s → All (IsTrueTo book) (listed_pages s.languages (pages_of site t))
pages_true book site t s sound is =
    all_true book s.languages (pages_of site t) (sound_in book (kept_site site t) s (all_at site_name (IsSoundSite book) site t.sites sound.sites) is)

-- ---- what is counted of them

sums_in : (f : Document → ℕ) (langs : List (List ℕ)) (pages : List KeptPage) → sum_by (λ p. f p.page.tree) (state_pages langs pages) ≡ sum_by (λ p. f p.page.tree) (listed_pages langs pages)
sums_in f langs [] = refl
sums_in f langs (p ∷ ps) =
    sum_by-cons (λ q. f q.page.tree) (state_page langs p) (state_pages langs ps) ∙ ap (λ n. f (kept_listed langs p).page.tree + n) (sums_in f langs ps)
    ∙ sym (sum_by-cons (λ q. f q.page.tree) (kept_listed langs p) (listed_pages langs ps))

counted_by : (f : Document → ℕ) (o : Option KeptSite) (s : Site) → option_map (λ (k : KeptSite). k.site) o ≡ Some s
    → option_map_or (λ (r : SiteState). sum_by (λ p. f p.page.tree) r.pages) (option_map site_state o) 0 ≡ sum_by (λ p. f p.page.tree) (listed_pages s.languages (pages_in o))
counted_by f None s is = cc
counted_by f (Some k) s is =
    let same : k.site ≡ s = cc in
    sums_in f k.site.languages k.pages ∙ ap (λ (r : Site). sum_by (λ p. f p.page.tree) (listed_pages r.languages k.pages)) same

counted_at : (f : Document → ℕ) (site : List ℕ) (t : Tables) (s : Site) → site_of site t ≡ Some s
    → option_map_or (λ (r : SiteState). sum_by (λ p. f p.page.tree) r.pages) (site_at site (state_of t)) 0 ≡ sum_by (λ p. f p.page.tree) (listed_pages s.languages (pages_of site t))
counted_at f site t s is =
    ap (λ (o : Option SiteState). option_map_or (λ (r : SiteState). sum_by (λ p. f p.page.tree) r.pages) o 0) (site_seen site t) ∙ counted_by f (kept_site site t) s is

-- ---- the request

there_in : (o : Option KeptSite) (s : Site) → option_map (λ (k : KeptSite). k.site) o ≡ Some s → IsSome o
there_in None s is = cc
there_in (Some k) s is = refl

if_told : (o : Option Tables) (P : Tables → Type 0) → ((t : Tables) → o ≡ Some t → P t) → IfSome o P
if_told None P holds = tt
if_told (Some t) P holds = holds t refl

module _ (book : Book) (caller site : List ℕ) (langs : List (List ℕ)) where
  abbrev listing : Request
  listing = record { caller = caller; command = command.PutLanguages site langs }

  -- one of a site that isn't entered
  pub decides_unowned : (old new : Told) (r : Refusal) → Enters Owner caller site old new (Err r) → Decides book listing old new (Err r)
  decides_unowned old new r enters = record {
    reads = read_as old new r enters.reads;
    agrees = λ t told sound. enters.refused t told (put_languages book site langs);
    fits = tt;
    there = tt;
    accepted = tt;
    edition = tt;
    firm = tt;
  }

  module _ (old new : Told) (s : Site) (heads : List PageHead) (owned : (t : Tables) → new.tables ≡ Some t → IsIn Owner caller site s t)
      (fits : FitsHeads heads) (are : (t : Tables) → new.tables ≡ Some t → heads ≡ heads_of site t) where
    -- one that is carried out
    pub decides_relisted : (mid : Told) (found : Vec PageOutcomes Global) (list : List PageOutcomes) (d : Decided) → IsTrue (is_name site) → AreLangs langs → OnlyReads {A = Decided} old new (Ok d)
        → Relists book site s.languages langs heads mid new (Ok found) → list ≡ found.items
        → d ≡ record { change = Some (PutLanguages site langs list); reply = reply.Languages (told (length langs)) (told (length list)) }
        → Decides book listing old new (Ok d)
    decides_relisted mid found list d named form reads relists items same =
        let names : map (λ (o : PageOutcomes). o.page) list ≡ map head_page heads = ap (map (λ (o : PageOutcomes). o.page)) items ∙ relists.named in
        record {
          reads = reads;
          agrees = λ t told sound.
              let is = owned t told in
              let pages = listed_pages s.languages (pages_of site t) in
              relisting_is book caller site langs t s list d is
              (items ∙ relists.found t told pages (all_pages book site s.languages langs t heads fits (are t told)) (pages_true book site t s sound is.kept)) same;
          fits = let P : Decided → Type 0 = λ e. IfSome e.change Fits in subst P (sym same) (form, outcomes_fit site list heads named fits names);
          there =
              let P : Decided → Type 0 = λ e. IfSome e.change (λ change. IfSome new.tables (IsThere change)) in
              subst P (sym same) (if_told new.tables (λ t. IsSome (kept_site site t)) (λ t told. there_in (kept_site site t) s (owned t told).kept));
          accepted = let P : Decided → Type 0 = λ e. IsAccepted e.reply in subst P (sym same) tt;
          edition = let P : Decided → Type 0 = λ e. IfSome e.change KeepsEdition in subst P (sym same) tt;
          firm = let P : Decided → Type 0 = λ e. RestsOnKept listing e.reply in inr (inl (subst P (sym same) (inr (inr tt))));
        }

    -- what it costs
    pub costs_relisted : (from to : ℕ) → Stays old.tables new.tables → RelistCosts book site s.languages langs heads new.tables from to
        → Costs book (command.PutLanguages site langs) old.tables new.tables from to
    costs_relisted from to stays costs = record {
      told = λ o t was is sound.
          let both : Some o ≡ Some t = sym was ∙ stays t is in
          let same : o ≡ t = cc in
          let sound_now = subst (IsSound book) same sound in
          let row = (owned t is).kept in
          let pages = listed_pages s.languages (pages_of site t) in
          let all = counted_at (λ (d : Document). length (affected book d (with_langs d langs))) site t s row in
          let here = ap (λ (u : Tables). relisted_pairs book langs (site_at site (state_of u))) same in
          let cost = costs.fewer t is pages (all_pages book site s.languages langs t heads fits (are t is)) (pages_true book site t s sound_now row) in
          omega (arith, cost, all, here);
      most = λ o t was is.
          let both : Some o ≡ Some t = sym was ∙ stays t is in
          let same : o ≡ t = cc in
          let row = (owned t is).kept in
          let pages = listed_pages s.languages (pages_of site t) in
          let all = counted_at (λ (d : Document). judgings book d) site t s row in
          let here = ap (λ (u : Tables). relisted_judgings book (site_at site (state_of u))) same in
          let cost = costs.most t is pages (all_pages book site s.languages langs t heads fits (are t is)) in
          omega (arith, cost, all, here);
      untold = λ not_kept. absurd (not_kept tt);
    }

  -- nothing is judged
  pub costs_unlisted : (old new : Option Tables) (from : ℕ) → Costs book (command.PutLanguages site langs) old new from from
  costs_unlisted old new from = record { told = λ s t was is sound. omega arith; most = λ s t was is. omega arith; untold = λ not_kept. omega arith }
