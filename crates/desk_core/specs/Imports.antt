-- Imports: what is decided on many pages at once.
use Rattle.std.specs.Prelude.{ℕ, ◌+◌, List, [], ◌∷◌, length, map, ◌==◌, if◌then◌else◌, Option, Some, None, is_none, option_map, Ok, count_by}
use Rattle.std.specs.Option.{option_or}
use Rattle.snap_tree.specs.Trees.{with_langs}
use Rattle.snap_tree.specs.Grown.{page_of}
use Rattle.snap_tree.specs.Faults.{tree_fault}
use Rattle.rule_core.specs.Books.{Book}
use Rattle.keep_core.specs.declared.page.PagePut.{PagePut}
use Rattle.keep_core.specs.declared.change.Change.TheVariants.{PutPages}
use Rattle.desk_core.specs.declared.command.Entry.{Entry}
use Rattle.desk_core.specs.declared.refusal.Limit.TheVariants as limit
use Rattle.desk_core.specs.declared.refusal.Refusal.{Refusal}
use Rattle.desk_core.specs.declared.refusal.Refusal.TheVariants as refusal
use Rattle.desk_core.specs.declared.reply.Reply.TheVariants as reply
use Rattle.desk_core.specs.Refusals.{Decision, unless, unless_refused}
use Rattle.desk_core.specs.State.{PageState, SiteState, page_at}
use Rattle.desk_core.specs.Pages.{rev_of, judged, has_room_for, has_revisions, page_put, stored}

-- the entries whose page isn't there
abbrev pub new_pages : List PageState → List Entry → ℕ
new_pages pages entries = count_by (λ e. is_none (page_at e.page pages)) entries

-- the first entry whose revision isn't its page's
abbrev pub first_stale : List PageState → List Entry → Option Refusal
first_stale pages [] = None
first_stale pages (e ∷ entries) =
    let current = rev_of (page_at e.page pages)
    in
    if e.rev == current then first_stale pages entries else Some (refusal.StaleRevision current (Some e.page))

-- the first entry whose rows make no tree
abbrev pub first_fault : List Entry → Option Refusal
first_fault [] = None
first_fault (e ∷ entries) = option_or (option_map (λ fault. refusal.TreeFault fault (Some e.page)) (tree_fault e.raw.rows)) (first_fault entries)

-- the pages as they are put into a site of these languages, one revision after another
abbrev pub puts : Book → List (List ℕ) → List ℕ → List PageState → ℕ → List Entry → List PagePut
puts book langs caller pages counter [] = []
puts book langs caller pages counter (e ∷ entries) =
    page_put book e.page (counter + 1) caller (with_langs (page_of e.raw) langs) (judged (page_at e.page pages))
    ∷ puts book langs caller pages (counter + 1) entries

-- pages are put in the order of the list, all or none
abbrev pub import : Book → List ℕ → List ℕ → List Entry → SiteState → Decision
import book site caller entries s =
    let made = puts book s.site.languages caller s.pages s.site.counter entries
    in
    unless (has_room_for (new_pages s.pages entries) (length s.pages)) (refusal.PageLimit limit.Pages) (
    unless (has_revisions s.site.counter (length entries)) (refusal.PageLimit limit.Revisions) (
    unless_refused (first_stale s.pages entries) (
    unless_refused (first_fault entries) (
    Ok (record { change = Some (PutPages site (s.site.counter + length entries) made); reply = reply.Imported (map (stored book) made) })))))
