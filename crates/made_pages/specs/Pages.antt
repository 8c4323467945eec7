-- The pages that a number makes. Page i has the address `https://example.org/` followed by i, and numbers its nodes
-- from 1 in document order.
use Rattle.std.specs.Prelude.{ℕ, zero, suc, ◌+◌, ◌%◌, ◌==◌, List, [], ◌∷◌, ◌++◌, length, map, codes, decimal, true, false, if◌then◌else◌, Option, Some, None}
use Rattle.std.specs.List.{range_with_len}
use Rattle.snap_tree.specs.declared.row.NodeId.{NodeId}
use Rattle.snap_tree.specs.declared.row.Space.TheVariants.{Html}
use Rattle.snap_tree.specs.declared.row.Facts.{Facts}
use Rattle.snap_tree.specs.declared.row.Attr.{Attr}
use Rattle.snap_tree.specs.declared.row.Body.TheVariants.{Element, Words}
use Rattle.snap_tree.specs.declared.row.Row.{Row}
use Rattle.snap_tree.specs.declared.row.Raw.{Raw}
use Rattle.snap_tree.specs.declared.fault.TreeFault.{TreeFault}
use Rattle.snap_tree.specs.Trees.{Document}
use Rattle.snap_tree.specs.Grown.{page_of}
use Rattle.snap_tree.specs.Faults.{tree_fault}
use Rattle.made_pages.specs.declared.kind.Kind.{Kind}
use Rattle.made_pages.specs.declared.kind.Kind.TheVariants.{Link, Image, Button, Field}
use Rattle.made_pages.specs.declared.page.TheConstants.{PARTS}

-- ---- nodes

-- rendered, visible, focusable, tabbable
abbrev pub rvft : Facts
rvft = record { rendered = true; visible = true; focusable = true; tabbable = true }

abbrev pub rv : Facts
rv = record { rendered = true; visible = true; focusable = false; tabbable = false }

abbrev pub no_facts : Facts
no_facts = record { rendered = false; visible = false; focusable = false; tabbable = false }

abbrev pub below : ℕ → Option NodeId
below n = Some (record { 0 = n })

-- the one attribute of this name and value
abbrev pub attr : List ℕ → List ℕ → List Attr
attr name value = record { name = name; value = value } ∷ []

-- the HTML element of this number, below its parent
abbrev pub element : ℕ → Option NodeId → List ℕ → List Attr → Facts → Row
element n parent tag attrs facts = record { id = record { 0 = n }; parent = parent; body = Element Html tag attrs; facts = facts }

abbrev pub words : ℕ → Option NodeId → List ℕ → Facts → Row
words n parent text facts = record { id = record { 0 = n }; parent = parent; body = Words text; facts = facts }

-- ---- a part

-- what stands in the section of number n, behind its heading
unfoldable pub content : Kind → ℕ → List Row
content Link n =
    element (n + 3) (below n) (codes "a") (attr (codes "href") (codes "#x")) rvft
    ∷ words (n + 4) (below (n + 3)) (codes "More") rv
    ∷ []
content Image n = element (n + 3) (below n) (codes "img") (attr (codes "alt") (codes "Chart")) rv ∷ []
content Button n = element (n + 3) (below n) (codes "button") [] rvft ∷ []
content Field n =
    element (n + 3) (below n) (codes "label") [] rv
    ∷ words (n + 4) (below (n + 3)) (codes "Name") rv
    ∷ element (n + 5) (below (n + 3)) (codes "input") (attr (codes "type") (codes "text")) rvft
    ∷ []

-- the section of part j with its heading, where the section has number n
unfoldable pub section : ℕ → ℕ → List Row
section j n =
    element n (below 5) (codes "section") [] rv
    ∷ element (n + 1) (below n) (codes "h2") [] rv
    ∷ words (n + 2) (below (n + 1)) (codes "Part " ++ decimal j) rv
    ∷ []

-- by the remainder by 4
abbrev pub kind_of : ℕ → Kind
kind_of k = if k == 0 then Link else (if k == 1 then Image else (if k == 2 then Button else Field))

-- the rows of part j of page i, whose section has number n
abbrev pub part : ℕ → ℕ → ℕ → ℕ → List Row
part number i j n = section j n ++ content (kind_of ((number + i + j) % 4)) n

-- ---- a page

-- what stands before the parts; they are below the body, which has number 5
unfoldable pub top : ℕ → List Row
top i =
    element 1 None (codes "html") (attr (codes "lang") (codes "en")) rv
    ∷ element 2 (below 1) (codes "head") [] no_facts
    ∷ element 3 (below 2) (codes "title") [] no_facts
    ∷ words 4 (below 3) (codes "Page " ++ decimal i) no_facts
    ∷ element 5 (below 1) (codes "body") [] rv
    ∷ []

-- some rows, and then those of part j of page i, which are numbered on
abbrev pub with_part : ℕ → ℕ → ℕ → List Row → List Row
with_part number i j rows = rows ++ part number i j (length rows + 1)

-- the rows of page i before its part j
unfoldable pub rows_before : ℕ → ℕ → ℕ → List Row
rows_before number i zero = top i
rows_before number i (suc j) = with_part number i j (rows_before number i j)

abbrev pub address : ℕ → List ℕ
address i = codes "https://example.org/" ++ decimal i

-- page i
unfoldable pub made_page : ℕ → ℕ → Raw
made_page number i = record { address = address i; rows = rows_before number i PARTS }

-- ---- pages

-- the pages from 1 to the last
abbrev pub made_pages : ℕ → ℕ → List Document
made_pages number pages = map (λ i. page_of (made_page number i)) (range_with_len 1 pages)

-- ---- faults

-- the first fault of page i; there is none
abbrev pub page_fault : ℕ → ℕ → Option TreeFault
page_fault number i = tree_fault (made_page number i).rows
