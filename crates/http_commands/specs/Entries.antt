-- The body of an import: pages with their names, the revisions that the sender saw, and snapshots.
use Rattle.std.specs.Prelude.{ℕ, suc, zero, List, [], ◌∷◌, ◌++◌, codes, bytes_eq, nat_le, Bool, not, ◌&&◌, if◌then◌else◌, Option, Some, None, option_map, option_and_then, Result, Ok}
use Rattle.std.specs.List.{list_any}
use Rattle.std.specs.Result.{result_ok}
use Rattle.serde_json.specs.Data.{Data, Items, no_items, item}
use Rattle.serde_json.specs.Find.{get, as_array, as_object}
use Rattle.web_address.specs.Address.{IsWebAddress}
use Rattle.snap_tree.specs.declared.row.Raw.{Raw}
use Rattle.snap_json.specs.Fields.{text_of}
use Rattle.snap_json.specs.Pages.{sent_page_of, next_place}
use Rattle.keep_core.specs.Names.{is_name}
use Rattle.http_routes.specs.declared.part.Part.TheVariants.{Body, Pages}
use Rattle.http_routes.specs.declared.fault.RequestFault.{RequestFault}
use Rattle.desk_core.specs.declared.command.Entry.{Entry}
use Rattle.desk_core.specs.declared.limits.TheConstants.{MOST_ENTRIES}
use Rattle.http_commands.specs.Shapes.{◌>>=◌, in_shape}
use Rattle.http_commands.specs.Revisions.{rev_of}

-- the entry has the name
abbrev pub is_on : List ℕ → Entry → Bool
is_on page e = bytes_eq e.page page

-- no earlier entry has it
abbrev pub is_new : List Entry → List ℕ → Bool
is_new earlier page = not (list_any (is_on page) earlier)

abbrev pub new_name : List Entry → List ℕ → Option (List ℕ)
new_name earlier page = if is_name page && is_new earlier page then Some page else None

-- a name that no earlier entry has
abbrev pub page_of : List Entry → Option Data → Option (List ℕ)
page_of earlier member = option_and_then (new_name earlier) (text_of member)

abbrev pub snapshot_of : Option Data → Option Raw
snapshot_of member = option_and_then (λ d. result_ok (sent_page_of d)) member

-- the entry that a value is, after those before it; what is no object has no members
abbrev pub entry_of : List Entry → Data → Option Entry
entry_of earlier d =
    option_and_then (λ page.
    option_and_then (λ rev.
    option_map (λ raw. record { page = page; rev = rev; raw = raw })
    (snapshot_of (get (codes "snapshot") d)))
    (rev_of (get (codes "rev") d)))
    (page_of earlier (get (codes "page") d))

-- the entries of a list after earlier ones, the first of them at a place; or the place of the first bad one
abbrev pub entries_from : List Entry → ℕ → Items → Result (List Entry) RequestFault
entries_from earlier place no_items = Ok []
entries_from earlier place (item d others) = do
  entry ← in_shape Pages place (entry_of earlier d)
  rest ← entries_from (earlier ++ entry ∷ []) (next_place place) others
  Ok (entry ∷ rest)

-- how many values
abbrev pub many : Items → ℕ
many no_items = zero
many (item d others) = suc (many others)

abbrev pub is_count : ℕ → Bool
is_count n = nat_le 1 n && nat_le n MOST_ENTRIES

abbrev pub few : Items → Option Items
few pages = if is_count (many pages) then Some pages else None

-- a list of 1 to 64 values
abbrev pub some_few : Option Data → Option Items
some_few member = option_and_then few (option_and_then as_array member)

-- an object whose `pages` is a list of 1 to 64 entries
abbrev pub entries_in : Data → Result (List Entry) RequestFault
entries_in body = do
  members ← in_shape Body 0 (as_object body)
  pages ← in_shape Pages 0 (some_few (get (codes "pages") body))
  entries_from [] 1 pages

-- its page is at a web address
abbrev pub IsAtWeb : Entry → Type 0
IsAtWeb entry = IsWebAddress entry.raw.address
