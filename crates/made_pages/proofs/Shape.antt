-- The trees of a page that a number makes: their rows are those of the page.
use Rattle.std.proofs.Common.{◌≡◌, ℕ, zero, suc, ◌+◌, ◌%◌, [], ◌++◌, length, codes, decimal, None, refl, sym, ap, ◌∙◌, append_assoc, arith}
use Rattle.std.proofs.lemmas.List.{append-nil, length-append}
use Rattle.snap_tree.specs.declared.row.Row.{Row}
use Rattle.snap_tree.specs.Trees.{Trees, empty, tree, rows_of}
use Rattle.made_pages.specs.declared.kind.Kind.{Kind}
use Rattle.made_pages.specs.declared.kind.Kind.TheVariants.{Link, Image, Button, Field}
use Rattle.made_pages.specs.Pages.{rvft, rv, no_facts, below, attr, element, words, content, section, kind_of, part, top, rows_before}

-- ---- the trees

abbrev pub html : Row
html = element 1 None (codes "html") (attr (codes "lang") (codes "en")) rv

abbrev pub body : Row
body = element 5 (below 1) (codes "body") [] rv

abbrev pub section_row : ℕ → Row
section_row n = element n (below 5) (codes "section") [] rv

-- what stands in the section of number n, behind its heading
abbrev pub content_trees : Kind → ℕ → Trees
content_trees Link n =
    tree (element (n + 3) (below n) (codes "a") (attr (codes "href") (codes "#x")) rvft)
    (tree (words (n + 4) (below (n + 3)) (codes "More") rv) empty empty) empty
content_trees Image n = tree (element (n + 3) (below n) (codes "img") (attr (codes "alt") (codes "Chart")) rv) empty empty
content_trees Button n = tree (element (n + 3) (below n) (codes "button") [] rvft) empty empty
content_trees Field n =
    tree (element (n + 3) (below n) (codes "label") [] rv)
    (tree (words (n + 4) (below (n + 3)) (codes "Name") rv) empty
    (tree (element (n + 5) (below (n + 3)) (codes "input") (attr (codes "type") (codes "text")) rvft) empty empty)) empty

-- the heading of part j, and what stands behind it
abbrev pub section_trees : Kind → ℕ → ℕ → Trees
section_trees kind j n =
    tree (element (n + 1) (below n) (codes "h2") [] rv)
    (tree (words (n + 2) (below (n + 1)) (codes "Part " ++ decimal j) rv) empty empty) (content_trees kind n)

-- k sections from part j on, of which the first has number n
abbrev pub sections : ℕ → ℕ → ℕ → ℕ → ℕ → Trees
sections number i j zero n = empty
sections number i j (suc k) n =
    tree (section_row n) (section_trees (kind_of ((number + i + j) % 4)) j n) (sections number i (suc j) k (n + length (part number i j n)))

abbrev pub head_trees : ℕ → Trees → Trees
head_trees i after =
    tree (element 2 (below 1) (codes "head") [] no_facts)
    (tree (element 3 (below 2) (codes "title") [] no_facts) (tree (words 4 (below 3) (codes "Page " ++ decimal i) no_facts) empty empty) empty) after

-- page i, where it has so many parts
abbrev pub page_trees : ℕ → ℕ → ℕ → Trees
page_trees number i parts = tree html (head_trees i (tree body (sections number i 0 parts 6) empty)) empty

-- ---- their rows

content_rows : (kind : Kind) (n : ℕ) → rows_of (content_trees kind n) ≡ content kind n
unfolding content
content_rows Link n = refl
content_rows Image n = refl
content_rows Button n = refl
content_rows Field n = refl

-- those of a part, and others after them
part_rows : (kind : Kind) (j n : ℕ) (after : Trees) → rows_of (tree (section_row n) (section_trees kind j n) after) ≡ (section j n ++ content kind n) ++ rows_of after
unfolding section
part_rows kind j n after = ap (λ rows. (section j n ++ rows) ++ rows_of after) (content_rows kind n)

-- the rows before a part, and those of the sections from there on
rows_from : (number i j k m : ℕ) → k + j ≡ m → rows_before number i j ++ rows_of (sections number i j k (length (rows_before number i j) + 1)) ≡ rows_before number i m
unfolding rows_before
rows_from number i j zero m e = let same : j ≡ m = omega (arith, e) in append-nil (rows_before number i j) ∙ ap (rows_before number i) same
rows_from number i j (suc k) m e =
    let rows = rows_before number i j in
    let n = length rows + 1 in
    let p = part number i j n in
    let next : n + length p ≡ length (rows ++ p) + 1 = omega (arith, length-append rows p) in
    let more : Trees = sections number i (suc j) k (n + length p) in
    ap (λ those. rows ++ those) (part_rows (kind_of ((number + i + j) % 4)) j n more)
    ∙ sym (append_assoc rows p (rows_of more))
    ∙ ap (λ at. (rows ++ p) ++ rows_of (sections number i (suc j) k at)) next
    ∙ rows_from number i (suc j) k m (omega (arith, e))

pub page_rows : (number i parts : ℕ) → rows_of (page_trees number i parts) ≡ rows_before number i parts
unfolding rows_before top
page_rows number i parts =
    let inner = rows_of (sections number i 0 parts 6) in
    ap (λ rows. top i ++ rows) (append-nil (inner ++ []) ∙ append-nil inner) ∙ rows_from number i 0 parts parts (omega arith)
