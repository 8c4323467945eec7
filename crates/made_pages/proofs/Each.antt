-- Each row of a made page keeps the limits, and each node stands in its place.
use Rattle.std.proofs.Common.{◌≡◌, ◌<◌, ◌≤◌, ◌^◌, ℕ, zero, suc, ◌+◌, ◌%◌, List, [], ◌∷◌, ◌++◌, length, codes, decimal, true, false, Option, None, refl, sym, ◌∙◌, arith}
use Rattle.std.proofs.lemmas.Fmt.{length-decimal-le}
use Rattle.std.proofs.lemmas.List.{length-append}
use Rattle.std.specs.List.{AllByRecursion}
use Rattle.snap_tree.specs.declared.row.NodeId.{NodeId}
use Rattle.snap_tree.specs.declared.row.Facts.{Facts}
use Rattle.snap_tree.specs.declared.row.Attr.{Attr}
use Rattle.snap_tree.specs.declared.row.Row.{Row}
use Rattle.snap_tree.specs.Trees.{Trees, empty}
use Rattle.snap_tree.specs.Rows.{is_text, own_fault}
use Rattle.snap_tree.specs.Spots.{number_of}
use Rattle.snap_tree.specs.Well.{IsPlaced, EachPlaced}
use Rattle.snap_tree.specs.WellRow.{IsWellRow}
use Rattle.snap_tree.proofs.EachRow.{all_append}
use Rattle.snap_tree.proofs.RowLimits.{well_row}
use Rattle.made_pages.specs.declared.kind.Kind.{Kind}
use Rattle.made_pages.specs.declared.kind.Kind.TheVariants.{Link, Image, Button, Field}
use Rattle.made_pages.specs.Pages.{rvft, rv, no_facts, below, attr, element, words, content, section, kind_of, part, top, rows_before}
use Rattle.made_pages.proofs.Shape.{html, body, section_row, content_trees, section_trees, sections, page_trees}

-- ---- places

element_placed : {above : List Row} {r : Row} {kids : Trees} → r.parent ≡ number_of above → length above < 128 → is_text r ≡ false → IsPlaced above r kids
element_placed named shallow not_text = record {
  named = named;
  shallow = omega (arith, shallow);
  childless = λ text. let no : true ≡ false = sym text ∙ not_text in cc;
}

words_placed : {above : List Row} {r : Row} → r.parent ≡ number_of above → length above < 128 → IsPlaced above r empty
words_placed named shallow = record { named = named; shallow = omega (arith, shallow); childless = λ text. refl }

content_placed : (kind : Kind) (n : ℕ) → EachPlaced (section_row n ∷ body ∷ html ∷ []) (content_trees kind n)
content_placed Link n = (element_placed refl (omega arith) refl, ((words_placed refl (omega arith), (tt, tt)), tt))
content_placed Image n = (element_placed refl (omega arith) refl, (tt, tt))
content_placed Button n = (element_placed refl (omega arith) refl, (tt, tt))
content_placed Field n =
    (element_placed refl (omega arith) refl, ((words_placed refl (omega arith), (tt, (element_placed refl (omega arith) refl, (tt, tt)))), tt))

section_placed : (kind : Kind) (j n : ℕ) → EachPlaced (section_row n ∷ body ∷ html ∷ []) (section_trees kind j n)
section_placed kind j n = (element_placed refl (omega arith) refl, ((words_placed refl (omega arith), (tt, tt)), content_placed kind n))

sections_placed : (number i j k n : ℕ) → EachPlaced (body ∷ html ∷ []) (sections number i j k n)
sections_placed number i j zero n = tt
sections_placed number i j (suc k) n = (
  element_placed refl (omega arith) refl,
  (section_placed (kind_of ((number + i + j) % 4)) j n, sections_placed number i (suc j) k (n + length (part number i j n))),
)

pub page_placed : (number i parts : ℕ) → EachPlaced [] (page_trees number i parts)
page_placed number i parts = (
  element_placed refl (omega arith) refl,
  (
    (
      element_placed refl (omega arith) refl,
      (
        (element_placed refl (omega arith) refl, ((words_placed refl (omega arith), (tt, tt)), tt)),
        (element_placed refl (omega arith) refl, (sections_placed number i 0 parts 6, tt)),
      ),
    ),
    tt,
  ),
)

-- ---- limits

-- a body says by itself whether it keeps them, whatever the number
element_well : (n : ℕ) (parent : Option NodeId) (tag : List ℕ) (attrs : List Attr) (facts : Facts) → 0 < n → own_fault (element 1 None tag attrs rv) ≡ None → IsWellRow (element n parent tag attrs facts)
element_well n parent tag attrs facts numbered sound =
    record { numbered = numbered; body_well = (well_row (element 1 None tag attrs rv) sound).body_well }

words_well : (n : ℕ) (parent : Option NodeId) (text : List ℕ) (facts : Facts) → 0 < n → length text ≤ 65536 → IsWellRow (words n parent text facts)
words_well n parent text facts numbered short = record { numbered = numbered; body_well = omega (arith, short) }

content_well : (kind : Kind) (n : ℕ) → AllByRecursion IsWellRow (content kind n)
unfolding content own_fault
content_well Link n =
    (element_well (n + 3) (below n) (codes "a") (attr (codes "href") (codes "#x")) rvft (omega arith) refl, (words_well (n + 4) (below (n + 3)) (codes "More") rv (omega arith) (omega arith), tt))
content_well Image n = (element_well (n + 3) (below n) (codes "img") (attr (codes "alt") (codes "Chart")) rv (omega arith) refl, tt)
content_well Button n = (element_well (n + 3) (below n) (codes "button") [] rvft (omega arith) refl, tt)
content_well Field n = (
  element_well (n + 3) (below n) (codes "label") [] rv (omega arith) refl,
  (
    words_well (n + 4) (below (n + 3)) (codes "Name") rv (omega arith) (omega arith),
    (element_well (n + 5) (below (n + 3)) (codes "input") (attr (codes "type") (codes "text")) rvft (omega arith) refl, tt),
  ),
)

-- a word and a number of few digits
pub few_bytes : (word : List ℕ) (n : ℕ) → length word ≤ 5 → n < 2 ^ 32 → length (word ++ decimal n) ≤ 15
few_bytes word n short small = omega (arith, short, length-append word (decimal n), length-decimal-le 10 n (omega arith) (omega (arith, small)) (omega (arith, small)))

section_well : (j n : ℕ) → 0 < n → j < 2 ^ 32 → AllByRecursion IsWellRow (section j n)
unfolding section own_fault
section_well j n numbered small = (
  element_well n (below 5) (codes "section") [] rv numbered refl,
  (
    element_well (n + 1) (below n) (codes "h2") [] rv (omega arith) refl,
    (words_well (n + 2) (below (n + 1)) (codes "Part " ++ decimal j) rv (omega arith) (omega (arith, few_bytes (codes "Part ") j (omega arith) small)), tt),
  ),
)

top_well : (i : ℕ) → i < 2 ^ 32 → AllByRecursion IsWellRow (top i)
unfolding top own_fault
top_well i small = (
  element_well 1 None (codes "html") (attr (codes "lang") (codes "en")) rv (omega arith) refl,
  (
    element_well 2 (below 1) (codes "head") [] no_facts (omega arith) refl,
    (
      element_well 3 (below 2) (codes "title") [] no_facts (omega arith) refl,
      (
        words_well 4 (below 3) (codes "Page " ++ decimal i) no_facts (omega arith) (omega (arith, few_bytes (codes "Page ") i (omega arith) small)),
        (element_well 5 (below 1) (codes "body") [] rv (omega arith) refl, tt),
      ),
    ),
  ),
)

pub rows_well : (number i j : ℕ) → i < 2 ^ 32 → j ≤ 1000 → AllByRecursion IsWellRow (rows_before number i j)
unfolding rows_before
rows_well number i zero small few = top_well i small
rows_well number i (suc j) small few =
    let rows = rows_before number i j in
    let n = length rows + 1 in
    let kind = kind_of ((number + i + j) % 4) in
    all_append IsWellRow rows (part number i j n) (rows_well number i j small (omega (arith, few)))
    (all_append IsWellRow (section j n) (content kind n) (section_well j n (omega arith) (omega (arith, few))) (content_well kind n))
