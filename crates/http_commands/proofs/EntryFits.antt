-- The entries of an import have names that differ, revisions within the greatest, and are 1 to 64.
use Rattle.std.proofs.Common.{◌≡◌, ℕ, suc, ◌≤◌, leb, not, ◌&&◌, ◌||◌, Bool, true, false, List, [], ◌∷◌, ◌++◌, length, get_or, Option, Some, Result, Ok, Err, refl, sym, ap, ◌∙◌, subst, arith}
use Rattle.std.specs.Prelude.{codes, IsTrue, IfSome, IfOk, option_and_then, bytes_eq}
use Rattle.std.specs.List.{All, AllPairs, list_any}
use Rattle.std.proofs.lemmas.Bool.{and_parts, leb-true, true≢false}
use Rattle.std.proofs.lemmas.List.Elements.{All-cons}
use Rattle.std.proofs.lemmas.List.Kept.{AllPairs-cons}
use Rattle.std.proofs.lemmas.Slice.Eq.{bytes_eq-Decides}
use Rattle.serde_json.specs.Data.{Data, Items, no_items, item}
use Rattle.serde_json.specs.Find.{get, as_array, as_object}
use Rattle.keep_core.specs.Names.{is_name}
use Rattle.snap_json.specs.Fields.{text_of}
use Rattle.snap_json.specs.Pages.{next_place}
use Rattle.http_routes.specs.declared.part.Part.TheVariants.{Body, Pages}
use Rattle.http_routes.specs.declared.fault.RequestFault.{RequestFault}
use Rattle.desk_core.specs.declared.command.Entry.{Entry}
use Rattle.desk_core.specs.declared.limits.TheConstants.{MOST_ENTRIES}
use Rattle.desk_core.specs.Fitting.{FitsRev, FitsEntries}
use Rattle.http_routes.proofs.Chosen.{when}
use Rattle.http_commands.specs.Shapes.{in_shape}
use Rattle.http_commands.specs.Revisions.{rev_of}
use Rattle.http_commands.specs.Entries.{is_on, is_new, new_name, page_of, snapshot_of, entry_of, entries_from, many, is_count, few, some_few, entries_in, IsAtWeb}
use Rattle.http_commands.proofs.Steps.{after, past, shaped, after_some, past_some, mapped}
use Rattle.http_commands.proofs.RevisionFits.{IsWithin, rev_within}

-- an entry after earlier ones
record FitsAfter (earlier : List Entry) (e : Entry) : Type 0 where
  seen : FitsRev e.page e.rev
  fresh : is_new earlier e.page ≡ true

-- a page's name
record IsFresh (earlier : List Entry) (page : List ℕ) : Type 0 where
  named : IsTrue (is_name page)
  fresh : is_new earlier page ≡ true

fresh_name : (earlier : List Entry) (page : List ℕ) → IfSome (new_name earlier page) (IsFresh earlier)
fresh_name earlier page =
    when (is_name page && is_new earlier page) (Some page) (IsFresh earlier) (λ both.
    let parts = and_parts (is_name page) (is_new earlier page) both in record { named = parts.0; fresh = parts.1 })

fresh_page : (earlier : List Entry) (member : Option Data) → IfSome (page_of earlier member) (IsFresh earlier)
fresh_page earlier member = past_some (IsFresh earlier) (text_of member) (new_name earlier) (fresh_name earlier)

entry_fits : (earlier : List Entry) (d : Data) → IfSome (entry_of earlier d) (FitsAfter earlier)
entry_fits earlier d =
    after_some (IsFresh earlier) (FitsAfter earlier) (page_of earlier (get (codes "page") d)) _ (fresh_page earlier (get (codes "page") d)) (λ page named.
    after_some IsWithin (FitsAfter earlier) (rev_of (get (codes "rev") d)) _ (rev_within (get (codes "rev") d)) (λ rev within.
    mapped (FitsAfter earlier) (snapshot_of (get (codes "snapshot") d)) (λ raw. record { page = page; rev = rev; raw = raw }) (λ raw.
    record { seen = record { named = named.named; within = within }; fresh = named.fresh })))

-- a name that is new after these entries and another is new after these, and isn't the other's
new_of : (b c d : Bool) → not (b || c) ≡ true → (not c ≡ true → (not d ≡ true)) → not (b || d) ≡ true
new_of true c d h k = h
new_of false c d h k = k h

still_new : (earlier : List Entry) (e : Entry) (page : List ℕ) → is_new (earlier ++ e ∷ []) page ≡ true → is_new earlier page ≡ true
still_new [] e page h = refl
still_new (f ∷ earlier) e page h =
    new_of (bytes_eq f.page page) (list_any (is_on page) (earlier ++ e ∷ [])) (list_any (is_on page) earlier) h (still_new earlier e page)

not_first : (b c : Bool) → not (b || c) ≡ true → not c ≡ true
not_first true c h = absurd (true≢false (sym h))
not_first false c h = h

not_last : (b : Bool) → not (b || false) ≡ true → b ≡ false
not_last true h = sym h
not_last false h = refl

other_name : (earlier : List Entry) (e : Entry) (page : List ℕ) → is_new (earlier ++ e ∷ []) page ≡ true → bytes_eq e.page page ≡ false
other_name [] e page h = not_last (bytes_eq e.page page) h
other_name (f ∷ earlier) e page h =
    other_name earlier e page (not_first (bytes_eq f.page page) (list_any (is_on page) (earlier ++ e ∷ [])) h)

differ : (e f : Entry) → bytes_eq e.page f.page ≡ false → e.page ≡ f.page → ⊥
differ e f other same = true≢false (sym ((bytes_eq-Decides e.page f.page).1 same) ∙ other)

-- entries that differ, after earlier ones
record FitAfter (earlier : List Entry) (items : Items) (entries : List Entry) : Type 0 where
  count : length entries ≡ many items
  each : All (FitsAfter earlier) entries
  distinct : AllPairs (λ (d e : Entry). d.page ≡ e.page → ⊥) entries

joined : (earlier : List Entry) (d : Data) (items : Items) (e : Entry) (rest : List Entry)
    → FitsAfter earlier e → FitAfter (earlier ++ e ∷ []) items rest → FitAfter earlier (item d items) (e ∷ rest)
joined earlier d items e rest first others = record {
  count = ap suc others.count;
  each =
      All-cons (FitsAfter earlier) e rest first (λ k f within.
      let here = others.each k f within in record { seen = here.seen; fresh = still_new earlier e (get_or rest k f).page here.fresh });
  distinct =
      AllPairs-cons (λ (d e : Entry). d.page ≡ e.page → ⊥) e rest (λ k f within. differ e (get_or rest k f) (other_name earlier e (get_or rest k f).page (others.each k f within).fresh)) others.distinct;
}

entries_fit : (earlier : List Entry) (place : ℕ) (items : Items) → IfOk (entries_from earlier place items) (FitAfter earlier items)
entries_fit earlier place no_items = record { count = refl; each = λ k e within. absurd (omega arith); distinct = λ i j e below within. absurd (omega arith) }
entries_fit earlier place (item d items) =
    after (FitsAfter earlier) (FitAfter earlier (item d items)) (in_shape Pages place (entry_of earlier d)) _
    (shaped (FitsAfter earlier) Pages place (entry_of earlier d) (entry_fits earlier d)) (λ e first.
    after (FitAfter (earlier ++ e ∷ []) items) (FitAfter earlier (item d items)) (entries_from (earlier ++ e ∷ []) (next_place place) items) _
    (entries_fit (earlier ++ e ∷ []) (next_place place) items) (λ rest others. joined earlier d items e rest first others))

-- a list of 1 to 64 values
abbrev AreFew : Items → Type 0
AreFew items = is_count (many items) ≡ true

are_few : (member : Option Data) → IfSome (some_few member) AreFew
are_few member = past_some AreFew (option_and_then as_array member) few (λ items. when (is_count (many items)) (Some items) AreFew (λ is. is))

fitting : (items : Items) (entries : List Entry) → AreFew items → FitAfter [] items entries → All IsAtWeb entries → FitsEntries entries
fitting items entries few fit web =
    let parts = and_parts (leb 1 (many items)) (leb (many items) MOST_ENTRIES) few in record {
      some = subst (λ n. 1 ≤ n) (sym fit.count) (leb-true 1 (many items) parts.0);
      few = subst (λ n. n ≤ MOST_ENTRIES) (sym fit.count) (leb-true (many items) MOST_ENTRIES parts.1);
      each = λ k e within. record { rev = (fit.each k e within).seen; address = web k e within };
      distinct = fit.distinct;
    }

weaker : {A : Type 0} (P Q : A → Type 0) (r : Result A RequestFault) → IfOk r P → ((x : A) → P x → Q x) → IfOk r Q
weaker P Q (Ok x) h k = k x h
weaker P Q (Err fault) h k = tt

-- entries that fit where their pages are at web addresses
abbrev pub FitAtWeb : List Entry → Type 0
FitAtWeb entries = All IsAtWeb entries → FitsEntries entries

pub read_entries_fit : (body : Data) → IfOk (entries_in body) FitAtWeb
read_entries_fit body =
    let pages = some_few (get (codes "pages") body) in
    past FitAtWeb (in_shape Body 0 (as_object body)) _ (λ members.
    after AreFew FitAtWeb (in_shape Pages 0 pages) _ (shaped AreFew Pages 0 pages (are_few (get (codes "pages") body))) (λ items few.
    weaker (FitAfter [] items) FitAtWeb (entries_from [] 1 items) (entries_fit [] 1 items) (λ entries fit web. fitting items entries few fit web)))
