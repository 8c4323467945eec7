-- Which bytes are a snapshot, and the page that they are; where they are none, the first fault.
use Rattle.std.specs.Prelude.{ℕ, ◌+◌, List, [], ◌∷◌, length, codes, nat_le, min, Bool, true, if◌then◌else◌, Option, Some, None, option_and_then, Result, Ok, Err}
use Rattle.std.specs.Str.{is_utf8}
use Rattle.serde_json.specs.Data.{Data, Items, no_items, item}
use Rattle.serde_json.specs.Find.{get, as_array, as_object}
use Rattle.serde_json.specs.Read.{read}
use Rattle.web_address.specs.Address.{address_of}
use Rattle.snap_tree.specs.declared.row.Row.{Row}
use Rattle.snap_tree.specs.declared.row.Raw.{Raw}
use Rattle.snap_tree.specs.declared.row.Body.{Body}
use Rattle.snap_tree.specs.declared.row.Body.TheVariants.{Element, Words}
use Rattle.snap_tree.specs.declared.fault.TreeFault.{TreeFault}
use Rattle.snap_tree.specs.Trees.{Document}
use Rattle.snap_tree.specs.Grown.{page_of as document_of}
use Rattle.snap_tree.specs.Faults.{tree_fault}
use Rattle.snap_json.specs.declared.fault.Field.TheVariants as field
use Rattle.snap_json.specs.declared.fault.SnapFault.{SnapFault}
use Rattle.snap_json.specs.declared.fault.SnapFault.TheVariants.{NotJson, Shape, BadUrl, Tree, TooLong}
use Rattle.snap_json.specs.declared.limits.Limits.{Limits}
use Rattle.snap_json.specs.declared.limits.TheConstants.{SENT, KEPT}
use Rattle.snap_json.specs.Faults.{◌>>=◌, in_shape}
use Rattle.snap_json.specs.Fields.{number_of, parent_of, text_of, name_of, space_of, attrs_of, facts_of}

-- an element, of a row with a tag
abbrev pub element_from : ℕ → Data → Data → Result Body SnapFault
element_from place row t = do
  tag ← in_shape place field.Tag (name_of (Some t))
  space ← in_shape place field.Ns (space_of (get (codes "ns") row))
  attrs ← in_shape place field.Attrs (attrs_of (get (codes "attrs") row))
  Ok (Element space tag attrs)

-- a text, whose name space and attributes aren't read
abbrev pub words_from : ℕ → Data → Result Body SnapFault
words_from place t = do
  text ← in_shape place field.Text (text_of (Some t))
  Ok (Words text)

-- exactly one of tag and text is there
abbrev pub body_from : ℕ → Data → Option Data → Option Data → Result Body SnapFault
body_from place row (Some tag) None = element_from place row tag
body_from place row None (Some text) = words_from place text
body_from place row None None = Err (Shape place field.Tag)
body_from place row (Some tag) (Some text) = Err (Shape place field.Tag)

-- the body of the row at a place of the list
unfoldable pub body_of : ℕ → Data → Result Body SnapFault
body_of place row = body_from place row (get (codes "tag") row) (get (codes "text") row)

-- the row at a place of the list
unfoldable pub row_of : ℕ → Data → Result Row SnapFault
row_of place row = do
  members ← in_shape place field.Row (as_object row)
  id ← in_shape place field.N (number_of (get (codes "n") row))
  parent ← in_shape place field.P (parent_of (get (codes "p") row))
  body ← body_of place row
  facts ← in_shape place field.F (facts_of (get (codes "f") row))
  Ok (record { id = id; parent = parent; body = body; facts = facts })

-- the place after a place, of which 4,294,967,295 is the last
abbrev pub next_place : ℕ → ℕ
next_place place = min (place + 1) 4294967295

-- the rows of a list, whose first is at a place
abbrev pub rows_of : ℕ → Items → Result (List Row) SnapFault
rows_of place no_items = Ok []
rows_of place (item row others) = do
  first ← row_of place row
  rest ← rows_of (next_place place) others
  Ok (first ∷ rest)

-- a length within a limit, where there is one
abbrev pub within : Option ℕ → ℕ → Bool
within None n = true
within (Some limit) n = nat_le n limit

-- a web address, or the fault that there is none
abbrev pub web : Option (List ℕ) → Result (List ℕ) SnapFault
web (Some address) = Ok address
web None = Err BadUrl

-- a page's address, from the text that was sent
abbrev pub address_from : Option ℕ → List ℕ → Result (List ℕ) SnapFault
address_from limit text = if within limit (length text) then web (address_of text) else Err BadUrl

-- the page that a JSON value is
unfoldable pub page_of : Limits → Data → Result Raw SnapFault
page_of limits page = do
  members ← in_shape 0 field.Top (as_object page)
  text ← in_shape 0 field.Url (text_of (get (codes "url") page))
  nodes ← in_shape 0 field.Nodes (option_and_then as_array (get (codes "nodes") page))
  address ← address_from limits.address text
  rows ← rows_of 1 nodes
  Ok (record { address = address; rows = rows })

-- the JSON value that bytes are
unfoldable pub json_of : List ℕ → Option Data
json_of bytes = if is_utf8 bytes then read bytes else None

-- a JSON value, or the fault that there is none
abbrev pub in_json : Option Data → Result Data SnapFault
in_json (Some d) = Ok d
in_json None = Err NotJson

-- the page that bytes are, however many
abbrev pub page_by_value : Limits → List ℕ → Result Raw SnapFault
page_by_value limits bytes = in_json (json_of bytes) >>= page_of limits

-- the page that bytes are
unfoldable pub page_in : Limits → List ℕ → Result Raw SnapFault
page_in limits bytes = if within limits.snapshot (length bytes) then page_by_value limits bytes else Err TooLong

-- the tree of a page, unless its rows have a fault
abbrev pub built_unless : Option TreeFault → Raw → Result Document SnapFault
built_unless None raw = Ok (document_of raw)
built_unless (Some f) raw = Err (Tree f)

abbrev pub built : Raw → Result Document SnapFault
built raw = built_unless (tree_fault raw.rows) raw

-- the tree that bytes are
unfoldable pub tree_in : Limits → List ℕ → Result Document SnapFault
tree_in limits bytes = page_in limits bytes >>= built

-- What is sent has at most 8,388,608 bytes, and 65,536 in its address. What is kept has no such limit.
abbrev pub sent_page_of : Data → Result Raw SnapFault
sent_page_of page = page_of SENT page

abbrev pub sent_rows_of : Data → Result (List Row) SnapFault
sent_rows_of rows = in_shape 0 field.Nodes (as_array rows) >>= rows_of 1

abbrev pub sent_page : List ℕ → Result Raw SnapFault
sent_page bytes = page_in SENT bytes

abbrev pub sent_tree : List ℕ → Result Document SnapFault
sent_tree bytes = tree_in SENT bytes

abbrev pub kept_tree : List ℕ → Result Document SnapFault
kept_tree bytes = tree_in KEPT bytes
