-- The rows of a made page are numbered from 1, so that no two have one number.
use Rattle.std.proofs.Common.{◌≡◌, ◌<◌, ℕ, zero, suc, ◌+◌, ◌%◌, List, [], ◌∷◌, ◌++◌, length, false, refl, subst, arith}
use Rattle.std.proofs.lemmas.Bool.Decides.{nat_tests}
use Rattle.std.specs.List.{list_any}
use Rattle.snap_tree.specs.declared.row.NodeId.{NodeId}
use Rattle.snap_tree.specs.declared.row.Row.{Row}
use Rattle.snap_tree.specs.Rows.{has_number}
use Rattle.snap_tree.specs.Well.{AreApart}
use Rattle.made_pages.specs.declared.kind.Kind.{Kind}
use Rattle.made_pages.specs.declared.kind.Kind.TheVariants.{Link, Image, Button, Field}
use Rattle.made_pages.specs.Pages.{content, section, kind_of, part, top, rows_before}

-- the rows have the numbers from n on
abbrev pub AreNumbered : ℕ → List Row → Type 0
AreNumbered n [] = Unit {0}
AreNumbered n (r ∷ rows) = (r.id.0 ≡ n) × AreNumbered (suc n) rows

numbered_on : (n m : ℕ) (xs ys : List Row) → n + length xs ≡ m → AreNumbered n xs → AreNumbered m ys → AreNumbered n (xs ++ ys)
numbered_on n m [] ys e h k = let same : m ≡ n = omega (arith, e) in subst (λ at. AreNumbered at ys) same k
numbered_on n m (x ∷ xs) ys e h k = (h.0, numbered_on (suc n) m xs ys (omega (arith, e)) h.1 k)

content_numbered : (kind : Kind) (n : ℕ) → AreNumbered (n + 3) (content kind n)
unfolding content
content_numbered Link n = (refl, (omega arith, tt))
content_numbered Image n = (refl, tt)
content_numbered Button n = (refl, tt)
content_numbered Field n = (refl, (omega arith, (omega arith, tt)))

part_numbered : (number i j n : ℕ) → AreNumbered n (part number i j n)
unfolding section
part_numbered number i j n =
    let kind = kind_of ((number + i + j) % 4) in
    numbered_on n (n + 3) (section j n) (content kind n) refl (refl, (omega arith, (omega arith, tt))) (content_numbered kind n)

pub rows_numbered : (number i j : ℕ) → AreNumbered 1 (rows_before number i j)
unfolding rows_before top
rows_numbered number i zero = (refl, (refl, (refl, (refl, (refl, tt)))))
rows_numbered number i (suc j) =
    let rows = rows_before number i j in
    let n = length rows + 1 in
    numbered_on 1 n rows (part number i j n) (omega arith) (rows_numbered number i j) (part_numbered number i j n)

-- ---- no two have one number

none_earlier : (m : NodeId) (n : ℕ) (rows : List Row) → m.0 < n → AreNumbered n rows → list_any (has_number m) rows ≡ false
none_earlier m n [] less h = refl
none_earlier m n (r ∷ rows) less h =
    let other : has_number m r ≡ false = grind (arith, nat_tests, h.0, less) in
    rw other (none_earlier m (suc n) rows (omega (arith, less)) h.1)

pub apart : (n : ℕ) (rows : List Row) → AreNumbered n rows → AreApart rows
apart n [] h = tt
apart n (r ∷ rows) h = (none_earlier r.id (suc n) rows (omega (arith, h.0)) h.1, apart (suc n) rows h.1)
