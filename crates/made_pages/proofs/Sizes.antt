-- How many rows the parts of a page have together, at the most.
use Rattle.std.proofs.Common.{◌≡◌, ◌≤◌, ◌<◌, ◌^◌, ◌+◌, ◌*◌, ◌%◌, ℕ, zero, suc, List, length, ap, ◌∙◌, add-one, arith}
use Rattle.std.proofs.lemmas.List.{length-append}
use Rattle.snap_tree.specs.declared.row.Row.{Row}
use Rattle.made_pages.specs.declared.kind.Kind.{Kind}
use Rattle.made_pages.specs.declared.kind.Kind.TheVariants.{Link, Image, Button, Field}
use Rattle.made_pages.specs.Pages.{content, section, kind_of, part, with_part, top, rows_before}

few_content : (kind : Kind) (n : ℕ) → length (content kind n) ≤ 3
unfolding content
few_content Link n = omega arith
few_content Image n = omega arith
few_content Button n = omega arith
few_content Field n = omega arith

few_section : (j n : ℕ) → length (section j n) ≤ 3
unfolding section
few_section j n = omega arith

few_top : (i : ℕ) → length (top i) ≤ 5
unfolding top
few_top i = omega arith

few_part : (number i j n : ℕ) → length (part number i j n) ≤ 6
few_part number i j n =
    let kind = kind_of ((number + i + j) % 4) in
    omega (arith, length-append (section j n) (content kind n), few_section j n, few_content kind n)

pub few_rows : (number i j : ℕ) → length (rows_before number i j) ≤ 5 + 6 * j
unfolding rows_before
few_rows number i zero = omega (arith, few_top i)
few_rows number i (suc j) =
    let rows = rows_before number i j in
    omega (arith, length-append rows (part number i j (length rows + 1)), few_part number i j (length rows + 1), few_rows number i j)

-- there is room for the number of each row
pub room : (number i j : ℕ) (rows : List Row) → rows ≡ rows_before number i j → j ≤ 1000 → length rows < 2 ^ 31
room number i j rows e small = omega (arith, ap length e, few_rows number i j, small)

-- no part yet
pub at_first : (number i : ℕ) (rows : List Row) → rows ≡ top i → rows ≡ rows_before number i 0
unfolding rows_before
at_first number i rows e = e

-- one more part
pub one_more : (number i j : ℕ) (before now : List Row) → before ≡ rows_before number i j → now ≡ with_part number i j before → now ≡ rows_before number i (j + 1)
unfolding rows_before
one_more number i j before now so_far more = rw add-one (more ∙ ap (with_part number i j) so_far)
