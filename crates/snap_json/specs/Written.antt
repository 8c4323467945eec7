-- The JSON value that a page is written as, with the keys of each object in byte order.
use Rattle.std.specs.Prelude.{ℕ, List, [], ◌++◌, map, codes, if◌then◌else◌, Option, Some, None}
use Rattle.serde_json.specs.Data.{Data, null, number, string, array, object, unsigned, no_items, item, Members, no_members, member}
use Rattle.serde_json.specs.View.{items_of}
use Rattle.serde_json.specs.Written.{compact_text}
use Rattle.snap_tree.specs.declared.row.NodeId.{NodeId}
use Rattle.snap_tree.specs.declared.row.Space.{Space}
use Rattle.snap_tree.specs.declared.row.Space.TheVariants.{Html, Svg, Other}
use Rattle.snap_tree.specs.declared.row.Facts.{Facts}
use Rattle.snap_tree.specs.declared.row.Attr.{Attr}
use Rattle.snap_tree.specs.declared.row.Body.{Body}
use Rattle.snap_tree.specs.declared.row.Body.TheVariants.{Element, Words}
use Rattle.snap_tree.specs.declared.row.Row.{Row}

-- the letters of facts, in the order r, v, f, t
abbrev pub letters : Facts → List ℕ
letters facts =
    (if facts.rendered then codes "r" else []) ++ (if facts.visible then codes "v" else [])
    ++ (if facts.focusable then codes "f" else []) ++ (if facts.tabbable then codes "t" else [])

abbrev pub space_name : Space → List ℕ
space_name Html = codes "html"
space_name Svg = codes "svg"
space_name Other = codes "other"

abbrev pub number_data : NodeId → Data
number_data id = number (unsigned id.0)

-- null where there is no parent
abbrev pub parent_data : Option NodeId → Data
parent_data None = null
parent_data (Some parent) = number_data parent

abbrev pub attr_data : Attr → Data
attr_data a = array (item (string a.name) (item (string a.value) no_items))

-- the members of an element
abbrev pub element_data : Row → Space → List ℕ → List Attr → Members
element_data row space tag attrs =
    member (codes "attrs") (array (items_of (map attr_data attrs)))
    (member (codes "f") (string (letters row.facts))
    (member (codes "n") (number_data row.id)
    (member (codes "ns") (string (space_name space))
    (member (codes "p") (parent_data row.parent)
    (member (codes "tag") (string tag)
    no_members)))))

-- the members of a text
abbrev pub words_data : Row → List ℕ → Members
words_data row text =
    member (codes "f") (string (letters row.facts))
    (member (codes "n") (number_data row.id)
    (member (codes "p") (parent_data row.parent)
    (member (codes "text") (string text)
    no_members)))

abbrev pub members_data : Row → Body → Members
members_data row (Element space tag attrs) = element_data row space tag attrs
members_data row (Words text) = words_data row text

unfoldable pub row_data : Row → Data
row_data row = object (members_data row row.body)

-- a page: the list of its rows, and its address
unfoldable pub page_data : List ℕ → List Row → Data
page_data address rows =
    object (member (codes "nodes") (array (items_of (map row_data rows)))
    (member (codes "url") (string address)
    no_members))

-- the bytes of a page, with no space
abbrev pub snapshot_text : List ℕ → List Row → List ℕ
snapshot_text address rows = compact_text (page_data address rows)
