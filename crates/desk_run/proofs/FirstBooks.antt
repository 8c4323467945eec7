-- What the books that were lent cost is what all books cost.
use Rattle.std.proofs.Common.{◌≡◌, ℕ, ◌+◌, List, ◌++◌, take, drop, map, sum, sum_by, Option, ap, arith}
use Rattle.std.proofs.lemmas.List.Sums.{sum-map, sum_by-append, sum_by-take-drop}
use Rattle.keep_core.specs.declared.tables.Tables.{Tables}
use Rattle.desk_core.specs.Refreshing.{CostsAtMost}

pub lent_costs : {B : Type 0} (calls : B → ℕ) (n : ℕ) (books first front back : List B) → first ≡ take n books → back ≡ drop n books → (most : Tables → ℕ) (old new : Option Tables)
    → CostsAtMost most old new (sum_by calls first) (sum_by calls front) → CostsAtMost most old new (sum (map calls books)) (sum (map calls (front ++ back)))
lent_costs calls n books first front back is rest most old new costs s t before now nearly =
    let cost = costs s t before now nearly in
    let was = sum-map calls books in
    let parts = sum_by-take-drop calls books n in
    let lent = ap (sum_by calls) is in
    let others = ap (sum_by calls) rest in
    let are = sum-map calls (front ++ back) in
    let both = sum_by-append calls front back in
    omega (arith, cost, was, parts, lent, others, are, both)
