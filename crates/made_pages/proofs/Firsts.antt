-- Pages as far as they are made.
use Rattle.std.proofs.Common.{◌≡◌, ◌+◌, ℕ, List, [], ◌∷◌, ◌++◌, sym, ap, ◌∙◌, arith}
use Rattle.std.proofs.lemmas.List.FromFn.{map-range_with_len_more}
use Rattle.snap_tree.specs.Trees.{Document}
use Rattle.snap_tree.specs.Grown.{page_of}
use Rattle.made_pages.specs.Pages.{made_page, made_pages}

pub made_more : (number k : ℕ) (before now : List Document) (page : Document) →
    before ≡ made_pages number k → page ≡ page_of (made_page number (k + 1)) → now ≡ before ++ page ∷ [] → now ≡ made_pages number (k + 1)
made_more number k before now page so_far is more =
    more ∙ ap (λ pages. pages ++ page ∷ []) so_far ∙ ap (λ p. made_pages number k ++ p ∷ []) is
    ∙ sym (map-range_with_len_more (λ i. page_of (made_page number i)) 1 k (k + 1) (omega arith))
