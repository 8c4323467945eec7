-- A change of sites leaves the editions that are noted.
use Rattle.std.proofs.Common.{◌≡◌, inl, inr, ℕ, List, [], ◌∷◌, ap, ◌∙◌}
use Rattle.keep_core.specs.declared.page.PagePut.{PagePut}
use Rattle.keep_core.specs.declared.page.PageOutcomes.{PageOutcomes}
use Rattle.keep_core.specs.declared.change.Change.{Change}
use Rattle.keep_core.specs.declared.change.Change.TheVariants.{PutSite, PutPages, DropPage, AddJudgements, PutLanguages, Refresh, SetEdition}
use Rattle.store_statements.specs.Stored.{Stored}
use Rattle.store_tables.specs.Batches.{PutsEach, RefreshesOne, RefreshesEach, Applies}

-- a change of sites
abbrev pub IsOfSites : Change → Type 0
IsOfSites (SetEdition number) = ⊥
IsOfSites other = Unit {0}

-- whatever else changes
abbrev editions : (a b : Stored) → a ≡ b → a.editions ≡ b.editions
editions a b same = ap (λ (s : Stored). s.editions) same

puts_stay : (site : List ℕ) (puts : List PagePut) (old new : Stored) → PutsEach site puts old new → new.editions ≡ old.editions
puts_stay site [] old new each = editions new old each
puts_stay site (put ∷ puts) old new each = puts_stay site puts each.0 new each.3 ∙ editions each.0 _ each.2.same

refresh_stays : (site : List ℕ) (o : PageOutcomes) (old new : Stored) → RefreshesOne site o old new → new.editions ≡ old.editions
refresh_stays site o old new (inl h) = editions new _ h.2
refresh_stays site o old new (inr h) = editions new old h.1

pub refreshes_stay : (site : List ℕ) (os : List PageOutcomes) (old new : Stored) → RefreshesEach site os old new → new.editions ≡ old.editions
refreshes_stay site [] old new each = editions new old each
refreshes_stay site (o ∷ os) old new each = refreshes_stay site os each.0 new each.2 ∙ refresh_stays site o old each.0 each.1

pub editions_stay : (change : Change) (old new : Stored) → IsOfSites change → Applies change old new → new.editions ≡ old.editions
editions_stay (PutSite site) old new is h = editions new _ h.1.same
editions_stay (PutPages site counter puts) old new is h = puts_stay site puts h.mid new h.each ∙ editions h.mid _ h.counts.0
editions_stay (DropPage site page) old new is (inl h) = editions new _ h.2.same
editions_stay (DropPage site page) old new is (inr h) = editions new old h.1
editions_stay (AddJudgements site page js outcomes) old new is h = editions new _ h.1.same
editions_stay (PutLanguages site langs os) old new is h = refreshes_stay site os h.mid new h.each ∙ editions h.mid _ h.same
editions_stay (Refresh site os) old new is (inl h) = refreshes_stay site os old new h.1
editions_stay (Refresh site os) old new is (inr h) = editions new old h.1
editions_stay (SetEdition number) old new is h = absurd is
