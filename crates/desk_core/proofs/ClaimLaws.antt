-- What claims on a page change: its list of judgements, and nothing else.
use Rattle.std.proofs.Common.{◌≡◌, ℕ, List, [], ◌++◌, Option, Some, None, option_map, option_and_then, Ok, refl, sym, ap, ◌∙◌, append-nil}
use Rattle.rule_core.specs.Books.{Book}
use Rattle.judge_core.specs.declared.judgement.Judgement.{Judgement}
use Rattle.earl_in.specs.declared.claim.Claim.{Claim}
use Rattle.named_rows.specs.ByName.{at, with_row}
use Rattle.named_rows.proofs.Lookups.{at_with_row, at_with_row_other}
use Rattle.keep_core.specs.declared.change.Change.{Change}
use Rattle.desk_core.specs.declared.command.Command.TheVariants as command
use Rattle.desk_core.specs.declared.decided.Decided.{Decided}
use Rattle.desk_core.specs.declared.refusal.Needed.TheVariants as needed
use Rattle.desk_core.specs.State.{State, PageState, SiteState, page_name, site_name, page_at, site_at, page_in_site}
use Rattle.desk_core.specs.Judging.{addition}
use Rattle.desk_core.specs.Claiming.{taken_on, take_earl}
use Rattle.desk_core.specs.Memberships.{memberships}
use Rattle.desk_core.specs.Changes.{in_pages, with_judgements, after}
use Rattle.desk_core.specs.Steps.{asked_by, decision, decided}
use Rattle.desk_core.proofs.Deciding.{Brings, brought, entering_brings, on_page_brings, take_earl_brings}

module _ (book : Book) (caller site page : List ℕ) (claims : List (Option Claim)) (state : State) where
  abbrev more_on : PageState → PageState
  more_on p = with_judgements (taken_on book caller claims p).added p

  -- the page of a name after judgements were added
  in_site : (n : List ℕ) (more : List Judgement) (o : Option SiteState) → option_and_then (λ s. page_at n s.pages) (option_map (in_pages (with_row page_name page (with_judgements more))) o)
      ≡ option_and_then (λ s. at page_name n (with_row page_name page (with_judgements more) s.pages)) o
  in_site n more None = refl
  in_site n more (Some s) = refl

  added_in : (n : List ℕ) (more : List Judgement) (kept : PageState) → page_in_site site n (after (Some (addition book site page more kept)) state)
      ≡ option_and_then (λ s. at page_name n (with_row page_name page (with_judgements more) s.pages)) (site_at site state)
  added_in n more kept =
      ap (option_and_then (λ s. page_at n s.pages)) (at_with_row site_name site (in_pages (with_row page_name page (with_judgements more))) (λ _ _. refl) state)
      ∙ in_site n more (site_at site state)

  other_by : (n : List ℕ) (more : List Judgement) (o : Option SiteState) → (n ≡ page → ⊥)
      → option_and_then (λ s. at page_name n (with_row page_name page (with_judgements more) s.pages)) o ≡ option_and_then (λ s. page_at n s.pages) o
  other_by n more None other = refl
  other_by n more (Some s) other = at_with_row_other page_name page (with_judgements more) (λ _ _. refl) n s.pages other

  abbrev Alone : Option Change → Type 0
  Alone change = (n : List ℕ) → (n ≡ page → ⊥) → page_in_site site n (after change state) ≡ page_in_site site n state

  alone : Brings Alone (decision book caller (command.TakeEarl site page claims) (site_at site state) (memberships caller state))
  alone =
      entering_brings Alone needed.Judge caller (site_at site state) _ (λ s _ _.
      on_page_brings Alone page s (take_earl book site caller page claims) (λ p _.
      take_earl_brings Alone book site caller page claims p (λ _ n other. refl) (λ more _ _ n other. added_in n more p ∙ other_by n more (site_at site state) other)))

  abbrev Adds : Option Change → Type 0
  Adds change = page_in_site site page (after change state) ≡ option_map more_on (page_in_site site page state)

  more_by : (s : SiteState) (p : PageState) (more : List Judgement) → page_at page s.pages ≡ Some p → more ≡ (taken_on book caller claims p).added
      → at page_name page (with_row page_name page (with_judgements more) s.pages) ≡ option_map more_on (page_at page s.pages)
  more_by s p more found is =
      at_with_row page_name page (with_judgements more) (λ _ _. refl) s.pages ∙ ap (option_map (with_judgements more)) found
      ∙ ap (λ js. Some (with_judgements js p)) is ∙ sym (ap (option_map more_on) found)

  none_by : (p : PageState) → (taken_on book caller claims p).added ≡ [] → more_on p ≡ p
  none_by p none =
      let with_list : List Judgement → PageState = λ js. record { page = p.page; judgements = js } in
      ap (λ more. with_list (p.judgements ++ more)) none ∙ ap with_list (append-nil p.judgements)

  found_in : (s : SiteState) (p : PageState) → site_at site state ≡ Some s → page_at page s.pages ≡ Some p → page_in_site site page state ≡ Some p
  found_in s p is found = ap (option_and_then (λ (s : SiteState). page_at page s.pages)) is ∙ found

  adds : Brings Adds (decision book caller (command.TakeEarl site page claims) (site_at site state) (memberships caller state))
  adds =
      entering_brings Adds needed.Judge caller (site_at site state) _ (λ s is _.
      on_page_brings Adds page s (take_earl book site caller page claims) (λ p found.
      take_earl_brings Adds book site caller page claims p
      (λ none. found_in s p is found ∙ ap Some (sym (none_by p none)) ∙ sym (ap (option_map more_on) (found_in s p is found)))
      (λ more added _.
      added_in page more p ∙ ap (option_and_then (λ (s : SiteState). at page_name page (with_row page_name page (with_judgements more) s.pages))) is
      ∙ more_by s p more found added ∙ sym (ap (λ o. option_map more_on (option_and_then (λ (s : SiteState). page_at page s.pages) o)) is))))

  module _ (d : Decided) (is : decided book (asked_by caller (command.TakeEarl site page claims)) state ≡ Ok d) where
    -- all other pages stay
    pub others_alone : (n : List ℕ) → (n ≡ page → ⊥) → page_in_site site n (after d.change state) ≡ page_in_site site n state
    others_alone = brought Alone (decided book (asked_by caller (command.TakeEarl site page claims)) state) d is alone

    -- and the page has what was taken behind its judgements
    pub page_has_taken : page_in_site site page (after d.change state) ≡ option_map more_on (page_in_site site page state)
    page_has_taken = brought Adds (decided book (asked_by caller (command.TakeEarl site page claims)) state) d is adds
