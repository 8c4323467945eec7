-- Another list of languages for a site, as it is carried out: what is found and what it costs, one part of the pages after another, and
-- where a part fails.
use Rattle.std.proofs.Common.{◌≡◌, ℕ, ◌+◌, ◌≤◌, List, [], ◌∷◌, ◌++◌, length, map, sum_by, Option, Some, Result, Ok, Err, IsErrOf, refl, sym, ap, subst, ◌∙◌, arith}
use Rattle.std.specs.Prelude.{Vec}
use Rattle.std.specs.List.{All, zip}
use Rattle.std.specs.declared.alloc.Global.{Global}
use Rattle.std.proofs.lemmas.List.{map-append, length-map}
use Rattle.std.proofs.lemmas.List.Elements.{All-nil, All-cons, All-head, All-tail}
use Rattle.std.proofs.lemmas.List.Sums.{sum_by-cons, sum_by-append}
use Rattle.snap_tree.specs.Trees.{with_langs}
use Rattle.rule_core.specs.Books.{Book}
use Rattle.rule_core.specs.Reach.{affected}
use Rattle.judge_core.specs.declared.outcomes.Outcomes.{Outcomes}
use Rattle.judge_core.specs.Outcomes.{outcomes, judgings}
use Rattle.reaudit.specs.declared.pages.ReWork.{ReWork}
use Rattle.reaudit.proofs.Halves.{all_left, all_right}
use Rattle.reaudit.specs.Pages.{AreVersions, WereFound, new_outcome, new_outcomes, reached_pairs, most_judgings}
use Rattle.keep_core.specs.declared.page.PageHead.{PageHead}
use Rattle.keep_core.specs.declared.page.PageOutcomes.{PageOutcomes}
use Rattle.keep_core.specs.declared.tables.KeptPage.{KeptPage}
use Rattle.keep_core.specs.declared.tables.Tables.{Tables}
use Rattle.keep_core.specs.Keeping.{Stays}
use Rattle.keep_core.specs.Tables.{page_name}
use Rattle.kept_pages.specs.KeptPages.{head_page, whole_at, ReadsAll}
use Rattle.desk_core.specs.declared.refusal.Refusal.{Refusal}
use Rattle.desk_core.specs.declared.refusal.Refusal.TheVariants as refusal
use Rattle.desk_core.specs.Relisting.{relisting, outcomes_named, relisted_kept, ArePages, Relists, RelistCosts}
use Rattle.desk_core.specs.Serving.{OnlyReads, FailsOnly, IsTrueTo}
use Rattle.desk_core.specs.Told.{Told}
use Rattle.desk_core.proofs.Onward.{thence, only_read}

-- ---- lists of which each is found

-- what is found of two lists is what is found of each of them
pub record Parts {X Y : Type 0} (f : X → Option Y) (xs others : List X) (ys : List Y) : Type 0 where
  pub first : List Y
  pub later : List Y
  pub whole : ys ≡ first ++ later
  pub of_first : map f xs ≡ map Some first
  pub of_later : map f others ≡ map Some later

pub parted : {X Y : Type 0} (f : X → Option Y) (xs others : List X) (ys : List Y) → map f (xs ++ others) ≡ map Some ys → Parts f xs others ys
parted f [] others ys is = record { first = []; later = ys; whole = refl; of_first = refl; of_later = is }
parted f (x ∷ xs) others [] is = cc
parted f (x ∷ xs) others (y ∷ ys) is =
    let here : f x ≡ Some y = cc in
    let rest : map f (xs ++ others) ≡ map Some ys = cc in
    let parts = parted f xs others ys rest in
    record {
      first = y ∷ parts.first;
      later = parts.later;
      whole = ap (λ zs. y ∷ zs) parts.whole;
      of_first = ap (λ o. o ∷ map f xs) here ∙ ap (λ os. Some y ∷ os) parts.of_first;
      of_later = parts.of_later;
    }

pub same_found : {X : Type 0} (xs ys : List X) → map Some xs ≡ map Some ys → xs ≡ ys
same_found [] [] is = refl
same_found [] (y ∷ ys) is = cc
same_found (x ∷ xs) [] is = cc
same_found (x ∷ xs) (y ∷ ys) is =
    let here : x ≡ y = cc in
    let rest : map Some xs ≡ map Some ys = cc in
    ap (λ z. z ∷ xs) here ∙ ap (λ zs. y ∷ zs) (same_found xs ys rest)

-- ---- one part after another

module _ (book : Book) (site : List ℕ) (langs others : List (List ℕ)) where
  abbrev At : Tables → PageHead → Option KeptPage
  At t = whole_at site langs t

  abbrev Of : List PageHead → Told → Told → Result (Vec PageOutcomes Global) Refusal → Type 0
  Of heads old new result = Relists book site langs others heads old new result

  module _ (first later heads : List PageHead) (whole : heads ≡ first ++ later) where
    parts : (t : Tables) (pages : List KeptPage) → ArePages book site langs others heads t pages → Parts (At t) first later pages
    parts t pages are = parted (At t) first later pages (sym (ap (map (At t)) whole) ∙ are)

    pub relists_both : (old mid new : Told) (found more all : Vec PageOutcomes Global) → Of first old mid (Ok found) → Of later mid new (Ok more) → all.items ≡ found.items ++ more.items
        → Of heads old new (Ok all)
    relists_both old mid new found more all earlier next is =
        let done : Result (Vec PageOutcomes Global) Refusal = Ok more in
        let both : Result (Vec PageOutcomes Global) Refusal = Ok all in
        let name : PageOutcomes → List ℕ = λ o. o.page in
        record {
          reads = only_read old new done both (λ e. cc) (thence old mid new (let r : Result (Vec PageOutcomes Global) Refusal = Ok found in r) done earlier.reads next.reads);
          named =
              ap (map name) is ∙ map-append name found.items more.items ∙ ap (λ ns. ns ++ map name more.items) earlier.named
              ∙ ap (λ ns. map head_page first ++ ns) next.named ∙ sym (ap (map head_page) whole ∙ map-append head_page first later);
          found =
              λ t told pages are holds.
              let p = parts t pages are in
              let each : All (IsTrueTo book) (p.first ++ p.later) = subst (All (IsTrueTo book)) p.whole holds in
              let of_first = earlier.found t (next.reads.stays t told) p.first p.of_first (all_left (IsTrueTo book) p.first p.later each) in
              let of_later = next.found t told p.later p.of_later (all_right (IsTrueTo book) p.first p.later each) in
              let put = relisted_kept book others in
              is ∙ ap (λ os. os ++ more.items) of_first ∙ ap (λ os. map put p.first ++ os) of_later
              ∙ sym (ap (map put) p.whole ∙ map-append put p.first p.later);
          refused = tt;
        }

    -- where the first part fails, and where another does
    pub relists_failed : (old new : Told) (r : Refusal) → Of first old new (Err r) → Of heads old new (Err r)
    relists_failed old new r earlier = record { reads = earlier.reads; named = tt; found = tt; refused = earlier.refused }

    pub relists_later : (old mid new : Told) (found : Vec PageOutcomes Global) (r : Refusal) → Of first old mid (Ok found) → Of later mid new (Err r) → Of heads old new (Err r)
    relists_later old mid new found r earlier next = record {
      reads = thence old mid new (let s : Result (Vec PageOutcomes Global) Refusal = Ok found in s) (let s : Result (Vec PageOutcomes Global) Refusal = Err r in s) earlier.reads next.reads;
      named = tt;
      found = tt;
      refused = next.refused;
    }

    -- and where there is no memory to put both together
    pub relists_wanting : (old mid new : Told) (found more : Vec PageOutcomes Global) → Of first old mid (Ok found) → Of later mid new (Ok more) → Of heads old new (Err refusal.OutOfMemory)
    relists_wanting old mid new found more earlier next =
        let done : Result (Vec PageOutcomes Global) Refusal = Ok more in
        let failed : Result (Vec PageOutcomes Global) Refusal = Err refusal.OutOfMemory in
        record {
          reads = only_read old new done failed (λ e. cc) (thence old mid new (let r : Result (Vec PageOutcomes Global) Refusal = Ok found in r) done earlier.reads next.reads);
          named = tt;
          found = tt;
          refused = λ _. tt;
        }

    -- ---- what they cost

    summed : {X : Type 0} (f : X → ℕ) (xs ys all : List X) (from at to : ℕ) → all ≡ xs ++ ys → at ≤ from + sum_by f xs → to ≤ at + sum_by f ys → to ≤ from + sum_by f all
    summed f xs ys all from at to is a b = omega (arith, a, b, ap (sum_by f) is, sum_by-append f xs ys)

    pub costs_both : (mid new : Option Tables) (from at to : ℕ) → Stays mid new → RelistCosts book site langs others first mid from at → RelistCosts book site langs others later new at to
        → RelistCosts book site langs others heads new from to
    costs_both mid new from at to stays earlier next = record {
      fewer = λ t told pages are holds.
          let p = parts t pages are in
          let each : All (IsTrueTo book) (p.first ++ p.later) = subst (All (IsTrueTo book)) p.whole holds in
          summed (λ (p : KeptPage). length (affected book p.page.tree (with_langs p.page.tree others))) p.first p.later pages from at to p.whole
          (earlier.fewer t (stays t told) p.first p.of_first (all_left (IsTrueTo book) p.first p.later each))
          (next.fewer t told p.later p.of_later (all_right (IsTrueTo book) p.first p.later each));
      most = λ t told pages are.
          let p = parts t pages are in
          summed (λ (p : KeptPage). judgings book p.page.tree) p.first p.later pages from at to p.whole
          (earlier.most t (stays t told) p.first p.of_first) (next.most t told p.later p.of_later);
    }

    -- a part that was all that was judged
    pub costs_first : (new : Option Tables) (from to : ℕ) → RelistCosts book site langs others first new from to → RelistCosts book site langs others heads new from to
    costs_first new from to earlier =
        costs_both new new from to to (λ t told. told) earlier (record { fewer = λ t told pages are holds. omega arith; most = λ t told pages are. omega arith })

  -- ---- some pages at once

  -- what is audited anew is a page of one address, by the outcomes that are kept of it
  pub are_versions : (pages : List KeptPage) → AreVersions (map (relisting others) pages)
  are_versions [] = All-nil (λ (w : ReWork). w.old.address ≡ w.new.address)
  are_versions (p ∷ ps) = All-cons (λ (w : ReWork). w.old.address ≡ w.new.address) _ _ refl (are_versions ps)

  abbrev WasFound : ReWork → Type 0
  WasFound w = w.rows.rows ≡ outcomes book w.old w.judgements

  were_found : (pages : List KeptPage) → All (IsTrueTo book) pages → WereFound book (map (relisting others) pages)
  were_found [] holds = All-nil WasFound
  were_found (p ∷ ps) holds = All-cons WasFound _ _ (All-head (IsTrueTo book) p ps holds) (were_found ps (All-tail (IsTrueTo book) p ps holds))

  named_by : (heads : List PageHead) (os : List Outcomes) → length os ≡ length heads
      → map (λ (o : PageOutcomes). o.page) (map outcomes_named (zip heads os)) ≡ map head_page heads
  named_by [] os many = refl
  named_by (h ∷ hs) [] many = cc
  named_by (h ∷ hs) (o ∷ os) many = ap (λ ns. h.page ∷ ns) (named_by hs os (omega arith))

  outcomes_are : (heads : List PageHead) (pages : List KeptPage) → map page_name pages ≡ map head_page heads
      → map outcomes_named (zip heads (new_outcomes book (map (relisting others) pages))) ≡ map (relisted_kept book others) pages
  outcomes_are [] [] named = refl
  outcomes_are [] (p ∷ ps) named = cc
  outcomes_are (h ∷ hs) [] named = cc
  outcomes_are (h ∷ hs) (p ∷ ps) named =
      let here : page_name p ≡ h.page = cc in
      let rest : map page_name ps ≡ map head_page hs = cc in
      ap (λ n. (let o : PageOutcomes = record { page = n; outcomes = new_outcome book (relisting others p) } in o) ∷ map outcomes_named (zip hs (new_outcomes book (map (relisting others) ps)))) (sym here)
      ∙ ap (λ os. relisted_kept book others p ∷ os) (outcomes_are hs ps rest)

  sums_are : (f : KeptPage → ℕ) (g : ReWork → ℕ) → ((p : KeptPage) → g (relisting others p) ≡ f p) → (pages : List KeptPage) → sum_by g (map (relisting others) pages) ≡ sum_by f pages
  sums_are f g same [] = refl
  sums_are f g same (p ∷ ps) =
      sum_by-cons g (relisting others p) (map (relisting others) ps) ∙ ap (λ n. n + sum_by g (map (relisting others) ps)) (same p)
      ∙ ap (λ n. f p + n) (sums_are f g same ps) ∙ sym (sum_by-cons f p ps)

  module _ (heads : List PageHead) (old new : Option Tables) (pages : List KeptPage) (reads : ReadsAll site langs heads old new (Ok pages)) where
    read_pages : (t : Tables) → new ≡ Some t → (some : List KeptPage) → ArePages book site langs others heads t some → some ≡ pages
    read_pages t told some are = same_found some pages (sym are ∙ reads.found t told)

    pub relists_named : (works : List ReWork) (os : List Outcomes) (all : List PageOutcomes) → works ≡ map (relisting others) pages → length os ≡ length works → all ≡ map outcomes_named (zip heads os)
        → map (λ (o : PageOutcomes). o.page) all ≡ map head_page heads
    relists_named works os all are many is =
        let pages_many : length pages ≡ length heads = sym (length-map pages page_name) ∙ ap length reads.named ∙ length-map heads head_page in
        ap (map (λ (o : PageOutcomes). o.page)) is
        ∙ named_by heads os (many ∙ ap length are ∙ length-map pages (relisting others) ∙ pages_many)

    pub relists_found : (works : List ReWork) (os : List Outcomes) (all : List PageOutcomes) → works ≡ map (relisting others) pages → (WereFound book works → os ≡ new_outcomes book works) → all ≡ map outcomes_named (zip heads os)
        → (t : Tables) → new ≡ Some t → (some : List KeptPage) → ArePages book site langs others heads t some → All (IsTrueTo book) some → all ≡ map (relisted_kept book others) some
    relists_found works os all are audited is t told some pages_are holds =
        let same = read_pages t told some pages_are in
        let found : WereFound book works = subst (WereFound book) (sym are) (were_found pages (subst (All (IsTrueTo book)) same holds)) in
        is ∙ ap (λ os. map outcomes_named (zip heads os)) (audited found ∙ ap (new_outcomes book) are) ∙ outcomes_are heads pages reads.named
        ∙ ap (map (relisted_kept book others)) (sym same)

    pub relist_costs : (works : List ReWork) (from to : ℕ) → works ≡ map (relisting others) pages → (WereFound book works → to ≤ from + reached_pairs book works) → to ≤ from + most_judgings book works
        → RelistCosts book site langs others heads new from to
    relist_costs works from to are counted within = record {
      fewer = λ t told some pages_are holds.
          let same = read_pages t told some pages_are in
          let found : WereFound book works = subst (WereFound book) (sym are) (were_found pages (subst (All (IsTrueTo book)) same holds)) in
          let pairs : KeptPage → ℕ = λ p. length (affected book p.page.tree (with_langs p.page.tree others)) in
          let sum : reached_pairs book works ≡ sum_by pairs some =
          ap (reached_pairs book) are ∙ sums_are pairs (λ (w : ReWork). length (affected book w.old w.new)) (λ _. refl) pages ∙ ap (sum_by pairs) (sym same) in
          omega (arith, counted found, sum);
      most = λ t told some pages_are.
          let same = read_pages t told some pages_are in
          let each : KeptPage → ℕ = λ p. judgings book p.page.tree in
          let sum : most_judgings book works ≡ sum_by each some =
          ap (most_judgings book) are ∙ sums_are each (λ (w : ReWork). judgings book w.new) (λ _. refl) pages ∙ ap (sum_by each) (sym same) in
          omega (arith, within, sum);
    }

  -- nothing is judged
  pub relist_costs_nothing : (heads : List PageHead) (new : Option Tables) (from : ℕ) → RelistCosts book site langs others heads new from from
  relist_costs_nothing heads new from = record { fewer = λ t told pages are holds. omega arith; most = λ t told pages are. omega arith }
