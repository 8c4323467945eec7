-- Pages stay sound where one is put by the next revision.
use Rattle.std.proofs.Common.{◌≡◌, ℕ, ◌+◌, ◌≤◌, List, [], ◌∷◌, length, map, get_or, true, Option, Some, None, option_map, is_none, cond, refl, sym, ap, ◌∙◌, subst, arith, inl, inr, ◌⊎◌}
use Rattle.std.specs.Option.{option_or}
use Rattle.std.specs.List.{All, AllPairs}
use Rattle.std.proofs.lemmas.Bool.Decides.{nat_tests}
use Rattle.std.proofs.lemmas.List.Sums.{sum_by-cons}
use Rattle.snap_tree.specs.declared.fault.TreeFault.{TreeFault}
use Rattle.snap_tree.specs.Trees.{Document, with_langs}
use Rattle.snap_tree.specs.Grown.{page_of, grown}
use Rattle.snap_tree.specs.Faults.{tree_fault}
use Rattle.snap_tree.specs.Well.{IsWell}
use Rattle.snap_tree.proofs.Wellness.{well_from_sound}
use Rattle.rule_core.specs.Books.{Book}
use Rattle.judge_core.specs.Outcomes.{outcomes}
use Rattle.named_rows.specs.ByName.{at, put_row, put_rows}
use Rattle.named_rows.proofs.Lookups.{all_put, at_put, at_put_other}
use Rattle.named_rows.proofs.Pairs.{pairs_put}
use Rattle.named_rows.proofs.Lengths.{more_by, length_put}
use Rattle.keep_core.specs.declared.tables.KeptPage.{KeptPage}
use Rattle.keep_core.specs.Tables.{page_name}
use Rattle.keep_core.specs.Changes.{put_over}
use Rattle.desk_core.specs.declared.command.Entry.{Entry}
use Rattle.desk_core.specs.declared.limits.TheConstants.{MOST_PAGES}
use Rattle.desk_core.specs.declared.refusal.Refusal.{Refusal}
use Rattle.desk_core.specs.declared.refusal.Refusal.TheVariants as refusal
use Rattle.desk_core.specs.State.{page_at}
use Rattle.desk_core.specs.Pages.{revision_in, judged, has_room, has_room_for, page_put}
use Rattle.desk_core.specs.Imports.{new_pages, first_fault, puts}
use Rattle.desk_core.specs.Soundness.{rev_in, IsGiven, IsSoundPage}
use Rattle.desk_core.proofs.Views.{state_page, state_pages, page_seen, judged_seen, same_or_other}

abbrev pub Given : ℕ → KeptPage → Type 0
Given counter p = IsGiven counter (rev_in p)

abbrev pub Differ : KeptPage → KeptPage → Type 0
Differ p q = rev_in p ≡ rev_in q → ⊥

pub record SoundPages (book : Book) (langs : List (List ℕ)) (counter : ℕ) (pages : List KeptPage) : Type 0 where
  pub each : All (IsSoundPage book langs) pages
  pub given : All (Given counter) pages
  pub differ : AllPairs Differ pages

-- ---- one page

one_given : (counter rev : ℕ) → rev ≡ counter + 1 → IsGiven (counter + 1) rev
one_given counter rev is = record { some = omega arith; within = omega arith }

still_given : (counter rev : ℕ) → IsGiven counter rev → IsGiven (counter + 1) rev
still_given counter rev given = record { some = given.some; within = omega (arith, given.within) }

new_differs : (counter rev old : ℕ) → rev ≡ counter + 1 → IsGiven counter old → rev ≡ old → ⊥
new_differs counter rev old is given same = omega (arith, given.within)

module _ (book : Book) (langs : List (List ℕ)) (counter : ℕ) where
  pub one_put : (row : KeptPage) (pages : List KeptPage) → SoundPages book langs counter pages → IsSoundPage book langs row → rev_in row ≡ counter + 1
      → SoundPages book langs (counter + 1) (put_row page_name row pages)
  one_put row pages sound new is = record {
    each = all_put page_name (IsSoundPage book langs) row pages new sound.each;
    given = all_put page_name (Given (counter + 1)) row pages (one_given counter (rev_in row) is)
        (λ k d within. still_given counter (rev_in (get_or pages k d)) (sound.given k d within));
    differ = pairs_put Differ page_name row pages sound.differ
        (λ k d within. new_differs counter (rev_in row) (rev_in (get_or pages k d)) is (sound.given k d within))
        (λ k d within same. new_differs counter (rev_in row) (rev_in (get_or pages k d)) is (sound.given k d within) (sym same));
  }

  -- a page as it is put over the kept ones
  pub put_page_sound : (page : List ℕ) (rev : ℕ) (hand : List ℕ) (tree : Document) (kept : List KeptPage) → IsWell tree.trees
      → IsSoundPage book langs (put_over kept (page_put book page rev hand (with_langs tree langs) (judged (page_at page (state_pages langs kept)))))
  put_page_sound page rev hand tree kept well = record { well = well; told = ap (outcomes book (with_langs tree langs)) (judged_seen langs page kept) }

-- ---- many pages

fault_by : (o : Option TreeFault) (page : Option (List ℕ)) (rest : Option Refusal) → option_or (option_map (λ fault. refusal.TreeFault fault page) o) rest ≡ None → (o ≡ None) × (rest ≡ None)
fault_by None page rest none = (refl, none)
fault_by (Some fault) page rest none = cc

-- rows without a fault make a well page, and so do those of the entries that follow
pub no_fault : (e : Entry) (entries : List Entry) → first_fault (e ∷ entries) ≡ None → (tree_fault e.raw.rows ≡ None) × (first_fault entries ≡ None)
no_fault e entries none = fault_by (tree_fault e.raw.rows) (Some e.page) (first_fault entries) none

pub puts_sound : (book : Book) (langs : List (List ℕ)) (caller : List ℕ) (orig cur : List KeptPage) (counter : ℕ) (entries : List Entry) → SoundPages book langs counter cur → first_fault entries ≡ None
    → SoundPages book langs (counter + length entries) (put_rows page_name (map (put_over orig) (puts book langs caller (state_pages langs orig) counter entries)) cur)
puts_sound book langs caller orig cur counter [] sound none =
    let same : counter ≡ counter + length {A = Entry} [] = omega arith in
    subst (λ n. SoundPages book langs n cur) same sound
puts_sound book langs caller orig cur counter (e ∷ entries) sound none =
    let parts = no_fault e entries none in
    let well : IsWell (grown e.raw.rows) = well_from_sound e.raw.rows parts.0 in
    let row : KeptPage = put_over orig (page_put book e.page (counter + 1) caller (with_langs (page_of e.raw) langs) (judged (page_at e.page (state_pages langs orig)))) in
    let first = one_put book langs counter row cur sound (put_page_sound book langs counter e.page (counter + 1) caller (page_of e.raw) orig well) refl in
    let rest = puts_sound book langs caller orig (put_row page_name row cur) (counter + 1) entries first parts.1 in
    let same : (counter + 1) + length entries ≡ counter + length (e ∷ entries) = omega arith in
    subst (λ n. SoundPages book langs n (put_rows page_name (map (put_over orig) (puts book langs caller (state_pages langs orig) (counter + 1) entries)) (put_row page_name row cur))) same rest

-- ---- how many

abbrev pub more : List ℕ → List KeptPage → ℕ
more n pages = more_by page_name (at page_name n pages)

room_by : (langs : List (List ℕ)) (o : Option KeptPage) (pages : ℕ) → has_room (revision_in (option_map (state_page langs) o)) pages ≡ true → pages ≤ MOST_PAGES → pages + more_by page_name o ≤ MOST_PAGES
unfolding more_by
room_by langs None pages room few = grind (arith, nat_tests)
room_by langs (Some p) pages room few = omega arith

-- a site of a page that is there has room for it
pub room_there : (count : ℕ) (pages : List KeptPage) → count ≡ length pages → length pages ≤ MOST_PAGES → has_room_for 0 count ≡ true
room_there count pages is few = grind (arith, nat_tests)

-- a site that has room for a page has it still when the page is put
pub one_few : (langs : List (List ℕ)) (row : KeptPage) (pages : List KeptPage) (count : ℕ) → count ≡ length pages → has_room (revision_in (page_at (page_name row) (state_pages langs pages))) count ≡ true → length pages ≤ MOST_PAGES
    → length (put_row page_name row pages) ≤ MOST_PAGES
one_few langs row pages count is room few =
    let within = room_by langs (at page_name (page_name row) pages) (length pages)
    (sym (ap (has_room (revision_in (option_map (state_page langs) (at page_name (page_name row) pages)))) is) ∙ ap (λ o. has_room (revision_in o) count) (sym (page_seen langs (page_name row) pages)) ∙ room) few in
    omega (arith, length_put page_name row pages)

none_more : (langs : List (List ℕ)) (o : Option KeptPage) → more_by page_name o ≡ cond (is_none (option_map (state_page langs) o)) 1 0
unfolding more_by
none_more langs None = refl
none_more langs (Some p) = refl

fewer_by : (m : List ℕ) (row : KeptPage) (cur : List KeptPage) → (m ≡ page_name row) ⊎ (m ≡ page_name row → ⊥) → more m (put_row page_name row cur) ≤ more m cur
unfolding more_by
fewer_by m row cur (inl same) =
    let there : more m (put_row page_name row cur) ≡ 0 = ap (more_by page_name) (ap (λ n. at page_name n (put_row page_name row cur)) same ∙ at_put page_name row cur) in
    omega arith
fewer_by m row cur (inr other) =
    let there : more m (put_row page_name row cur) ≡ more m cur = ap (more_by page_name) (at_put_other page_name m row cur other) in
    omega arith

puts_few : (book : Book) (langs : List (List ℕ)) (caller : List ℕ) (orig cur : List KeptPage) (counter : ℕ) (entries : List Entry) → ((n : List ℕ) → more n cur ≤ more n orig)
    → length (put_rows page_name (map (put_over orig) (puts book langs caller (state_pages langs orig) counter entries)) cur) ≤ length cur + new_pages (state_pages langs orig) entries
puts_few book langs caller orig cur counter [] fewer = omega arith
puts_few book langs caller orig cur counter (e ∷ entries) fewer =
    let row : KeptPage = put_over orig (page_put book e.page (counter + 1) caller (with_langs (page_of e.raw) langs) (judged (page_at e.page (state_pages langs orig)))) in
    let next = put_row page_name row cur in
    let step = length_put page_name row cur in
    let test = is_none (page_at e.page (state_pages langs orig)) in
    let counted : more e.page orig ≡ cond test 1 0 =
    none_more langs (at page_name e.page orig) ∙ ap (λ o. cond (is_none o) 1 0) (sym (page_seen langs e.page orig)) in
    let rest = puts_few book langs caller orig next (counter + 1) entries (λ m. le_chain (more m next) (more m cur) (more m orig) (fewer_by m row cur (same_or_other m e.page)) (fewer m)) in
    let here = fewer e.page in
    let all : new_pages (state_pages langs orig) (e ∷ entries) ≡ cond test 1 0 + new_pages (state_pages langs orig) entries =
    sum_by-cons (λ (d : Entry). cond (is_none (page_at d.page (state_pages langs orig))) 1 0) e entries in
    subst (λ n. length (put_rows page_name (map (put_over orig) (puts book langs caller (state_pages langs orig) (counter + 1) entries)) next) ≤ length cur + n) (sym all)
    (sum_up (length next) (length cur) (more e.page cur) (more e.page orig) (cond test 1 0) (new_pages (state_pages langs orig) entries) _ step here counted rest)
  where
    le_chain : (a b c : ℕ) → a ≤ b → b ≤ c → a ≤ c
    le_chain a b c p q = omega arith

    sum_up : (next cur here orig one rest all : ℕ) → next ≤ cur + here → here ≤ orig → orig ≡ one → all ≤ next + rest → all ≤ cur + (one + rest)
    sum_up next cur here orig one rest all p q r s = omega arith

-- a site has room still for the pages of an import
pub import_few : (book : Book) (langs : List (List ℕ)) (caller : List ℕ) (pages : List KeptPage) (count counter : ℕ) (entries : List Entry) → count ≡ length pages
    → has_room_for (new_pages (state_pages langs pages) entries) count ≡ true
    → length (put_rows page_name (map (put_over pages) (puts book langs caller (state_pages langs pages) counter entries)) pages) ≤ MOST_PAGES
import_few book langs caller pages count counter entries is room =
    let within : count + new_pages (state_pages langs pages) entries ≤ MOST_PAGES = grind (arith, nat_tests) in
    let steps = puts_few book langs caller pages pages counter entries (λ n. le_same (more n pages)) in
    omega arith
  where
    le_same : (a : ℕ) → a ≤ a
    le_same a = omega arith
