-- The rows that a table of nodes stands for.
use Rattle.std.specs.Prelude.{◌+◌, ℕ, List, [], ◌∷◌, codes, map, min}
use Rattle.std.specs.Borrow.{Bor}
use Rattle.snap_tree.specs.declared.row.Space.{Space}
use Rattle.snap_tree.specs.declared.row.Space.TheVariants as space
use Rattle.snap_tree.specs.declared.row.Facts.{Facts as RowFacts}
use Rattle.snap_tree.specs.declared.row.Attr.{Attr}
use Rattle.snap_tree.specs.declared.row.Body.{Body}
use Rattle.snap_tree.specs.declared.row.Body.TheVariants as body
use Rattle.snap_tree.specs.declared.row.Row.{Row}
use Rattle.snap_tree.specs.declared.row.Raw.{Raw}
use Rattle.fixture_pages.specs.declared.node.Node.{Node}
use Rattle.fixture_pages.specs.declared.node.Node.TheVariants.{Element, Html, Svg, Stop, Facts, Words, Text}
use Rattle.fixture_pages.specs.declared.pages.TheConstants.{ADDRESS}
use Rattle.fixture_pages.specs.Letters.{facts_in, named}

-- the attribute of a name and a value
abbrev pub attr_of : Bor (List ℕ) × Bor (List ℕ) → Attr
attr_of pair = record { name = pair.0.now; value = pair.1.now }

abbrev pub element_of : Space → List ℕ → List (Bor (List ℕ) × Bor (List ℕ)) → Body
element_of space tag attrs = body.Element space tag (map attr_of attrs)

abbrev pub body_of : Node → Body
body_of (Element parent space tag attrs letters) = element_of space tag.now attrs.now
body_of (Html parent tag attrs) = element_of space.Html tag.now attrs.now
body_of (Svg parent tag attrs) = element_of space.Svg tag.now attrs.now
body_of (Stop parent tag attrs) = element_of space.Html tag.now attrs.now
body_of (Facts parent tag attrs letters) = element_of space.Html tag.now attrs.now
body_of (Words parent text) = body.Words text.now
body_of (Text parent text letters) = body.Words text.now

abbrev pub facts_of : Node → RowFacts
facts_of (Element parent space tag attrs letters) = facts_in letters.now
facts_of (Html parent tag attrs) = facts_in (codes "rv")
facts_of (Svg parent tag attrs) = facts_in (codes "rv")
facts_of (Stop parent tag attrs) = facts_in (codes "rvft")
facts_of (Facts parent tag attrs letters) = facts_in letters.now
facts_of (Words parent text) = facts_in (codes "rv")
facts_of (Text parent text letters) = facts_in letters.now

abbrev pub parent_of : Node → ℕ
parent_of (Element parent space tag attrs letters) = parent
parent_of (Html parent tag attrs) = parent
parent_of (Svg parent tag attrs) = parent
parent_of (Stop parent tag attrs) = parent
parent_of (Facts parent tag attrs letters) = parent
parent_of (Words parent text) = parent
parent_of (Text parent text letters) = parent

-- the row of a node, numbered so
abbrev pub row_of : ℕ → Node → Row
row_of n node = record { id = record { 0 = n }; parent = named (parent_of node); body = body_of node; facts = facts_of node }

-- the number after a number; that of the greatest is itself
abbrev pub after : ℕ → ℕ
after n = min (n + 1) 4294967295

-- the rows of nodes that are numbered from the number after this one
abbrev pub numbered : ℕ → List Node → List Row
numbered last [] = []
numbered last (node ∷ nodes) = row_of (after last) node ∷ numbered (after last) nodes

-- what some rows make at the address of small pages
abbrev pub at_address : List Row → Raw
at_address rows = record { address = ADDRESS.now; rows = rows }

-- what some nodes make, numbered from 1
abbrev pub sketched : List Node → Raw
sketched nodes = at_address (numbered 0 nodes)
