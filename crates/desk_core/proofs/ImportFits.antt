-- What an import decides fits, where the request does.
use Rattle.std.proofs.Common.{◌≡◌, ℕ, ◌+◌, ◌≤◌, List, [], ◌∷◌, length, map, IsTrue, refl, arith}
use Rattle.std.specs.List.{All, AllPairs}
use Rattle.std.proofs.lemmas.List.Elements.{All-nil, All-cons, All-head, All-tail}
use Rattle.std.proofs.lemmas.List.Kept.{AllPairs-cons}
use Rattle.rule_core.specs.Books.{Book}
use Rattle.keep_core.specs.declared.page.PagePut.{PagePut}
use Rattle.keep_core.specs.Names.{is_name}
use Rattle.keep_core.specs.declared.limits.TheConstants.{MOST_REVISION}
use Rattle.desk_core.specs.declared.command.Entry.{Entry}
use Rattle.desk_core.specs.declared.placed.Placed.{Placed}
use Rattle.desk_core.specs.declared.refusal.Limit.TheVariants as limit
use Rattle.desk_core.specs.declared.refusal.Refusal.TheVariants as refusal
use Rattle.desk_core.specs.Refusals.{Decision, unless, unless_refused}
use Rattle.desk_core.specs.Pages.{has_room_for, has_revisions}
use Rattle.desk_core.specs.Imports.{first_fault}
use Rattle.desk_core.specs.Fitting.{FitsEntry, FitsEntries}
use Rattle.desk_core.specs.Placing.{entries_of, new_among, stale_among, heads_from, work_of, puts_by, storing_all, import_placed}
use Rattle.desk_core.proofs.Deciding.{Brings, unless_brings, unless_refused_brings}
use Rattle.desk_core.proofs.Fitted.{IfAnyFits, IfAnyKeeps, has_revisions_le, PutFits, Apart, EntriesApart, first_apart, rest_apart}

module _ (book : Book) (langs : List (List ℕ)) (caller : List ℕ) where
  made : ℕ → List Placed → List PagePut
  made counter all = puts_by book langs (heads_from caller counter all) (map work_of all)

  made_fit : (counter : ℕ) (all : List Placed) → All FitsEntry (entries_of all) → counter + length all ≤ MOST_REVISION → All PutFits (made counter all)
  unfolding made
  made_fit counter [] each within = All-nil PutFits
  made_fit counter (w ∷ all) each within =
      let first = All-head FitsEntry w.entry (entries_of all) each in
      All-cons PutFits _ _ (record { head = record { page = first.rev.named; rev = omega arith }; address = first.address; no_langs = refl })
      (made_fit (counter + 1) all (All-tail FitsEntry w.entry (entries_of all) each) (omega arith))

  made_apart_from : (name : List ℕ) (counter : ℕ) (all : List Placed) → All (λ (e : Entry). name ≡ e.page → ⊥) (entries_of all)
      → All (λ (p : PagePut). name ≡ p.page.head.page → ⊥) (made counter all)
  unfolding made
  made_apart_from name counter [] apart = All-nil (λ (p : PagePut). name ≡ p.page.head.page → ⊥)
  made_apart_from name counter (w ∷ all) apart =
      All-cons (λ (p : PagePut). name ≡ p.page.head.page → ⊥) _ _ (All-head (λ (e : Entry). name ≡ e.page → ⊥) w.entry (entries_of all) apart)
      (made_apart_from name (counter + 1) all (All-tail (λ (e : Entry). name ≡ e.page → ⊥) w.entry (entries_of all) apart))

  made_apart : (counter : ℕ) (all : List Placed) → AllPairs EntriesApart (entries_of all) → AllPairs Apart (made counter all)
  unfolding made
  made_apart counter [] apart = λ i j d lt within. absurd (omega arith)
  made_apart counter (w ∷ all) apart =
      AllPairs-cons Apart _ _ (made_apart_from w.entry.page (counter + 1) all (first_apart w.entry (entries_of all) apart))
      (made_apart (counter + 1) all (rest_apart w.entry (entries_of all) apart))

  pub import_placed_fits : (site : List ℕ) (counter pages : ℕ) (all : List Placed) → IsTrue (is_name site) → FitsEntries (entries_of all)
      → Brings IfAnyFits (import_placed book site langs caller counter pages all)
  unfolding made
  import_placed_fits site counter pages all named fits =
      let put : Decision = storing_all book site (counter + length all) (made counter all) in
      let whole : Decision = unless_refused (first_fault (entries_of all)) put in
      let fresh : Decision = unless_refused (stale_among all) whole in
      let given : Decision = unless (has_revisions counter (length all)) (refusal.PageLimit limit.Revisions) fresh in
      unless_brings IfAnyFits (has_room_for (new_among all) pages) (refusal.PageLimit limit.Pages) given (λ room.
      unless_brings IfAnyFits (has_revisions counter (length all)) (refusal.PageLimit limit.Revisions) fresh (λ more.
      unless_refused_brings IfAnyFits (stale_among all) whole (λ _.
      unless_refused_brings IfAnyFits (first_fault (entries_of all)) put (λ _.
      let within = has_revisions_le counter (length all) more in
      record {
        name = named;
        within = within;
        each = made_fit counter all fits.each within;
        distinct = made_apart counter all fits.distinct;
      }))))

  pub import_placed_keeps : (site : List ℕ) (counter pages : ℕ) (all : List Placed) → Brings IfAnyKeeps (import_placed book site langs caller counter pages all)
  unfolding made
  import_placed_keeps site counter pages all =
      let put : Decision = storing_all book site (counter + length all) (made counter all) in
      let whole : Decision = unless_refused (first_fault (entries_of all)) put in
      let fresh : Decision = unless_refused (stale_among all) whole in
      let given : Decision = unless (has_revisions counter (length all)) (refusal.PageLimit limit.Revisions) fresh in
      unless_brings IfAnyKeeps (has_room_for (new_among all) pages) (refusal.PageLimit limit.Pages) given (λ _.
      unless_brings IfAnyKeeps (has_revisions counter (length all)) (refusal.PageLimit limit.Revisions) fresh (λ _.
      unless_refused_brings IfAnyKeeps (stale_among all) whole (λ _.
      unless_refused_brings IfAnyKeeps (first_fault (entries_of all)) put (λ _. tt))))
