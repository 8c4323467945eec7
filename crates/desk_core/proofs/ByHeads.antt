-- New outcomes of pages by the names of heads: they fit, and what holds of each name holds of each head.
use Rattle.std.proofs.Common.{◌≡◌, ℕ, zero, suc, List, [], ◌∷◌, map, take, drop, get_or, IsTrue, sym, ◌∙◌, subst}
use Rattle.std.specs.declared.cmp.Ordering.TheVariants.{Less, Equal}
use Rattle.std.specs.List.{All, AllPairs}
use Rattle.std.proofs.lemmas.List.Elements.{All-nil, All-cons, All-head, All-tail, All-take, All-drop}
use Rattle.std.proofs.lemmas.List.Kept.{AllPairs-cons}
use Rattle.named_rows.specs.ByName.{IsInOrder}
use Rattle.named_rows.proofs.Names.{tied_name}
use Rattle.named_rows.proofs.Order.{IsBelow, in_order_none, in_order_cons, in_order_first, in_order_rest}
use Rattle.named_rows.proofs.Pairs.{pairs_none}
use Rattle.keep_core.specs.declared.page.PageHead.{PageHead}
use Rattle.keep_core.specs.declared.page.PageOutcomes.{PageOutcomes}
use Rattle.keep_core.specs.Names.{is_name}
use Rattle.keep_core.specs.Fits.{FitsHead, FitsHeads, FitsOutcomes}
use Rattle.kept_pages.specs.KeptPages.{head_page}

abbrev pub outcomes_page : PageOutcomes → List ℕ
outcomes_page o = o.page

module _ (Q : List ℕ → Type 0) where
  abbrev OfHead : PageHead → Type 0
  OfHead h = Q h.page

  abbrev OfOutcomes : PageOutcomes → Type 0
  OfOutcomes o = Q o.page

  -- what holds of each name
  pub heads_have : (new : List PageOutcomes) (heads : List PageHead) → map outcomes_page new ≡ map head_page heads → All OfOutcomes new → All OfHead heads
  heads_have [] [] same all = All-nil OfHead
  heads_have [] (h ∷ hs) same all = cc
  heads_have (o ∷ os) [] same all = cc
  heads_have (o ∷ os) (h ∷ hs) same all =
      let first : o.page ≡ h.page = cc in
      let others : map outcomes_page os ≡ map head_page hs = cc in
      All-cons OfHead h hs (subst Q first (All-head OfOutcomes o os all)) (heads_have os hs others (All-tail OfOutcomes o os all))

  pub outcomes_have : (new : List PageOutcomes) (heads : List PageHead) → map outcomes_page new ≡ map head_page heads → All OfHead heads → All OfOutcomes new
  outcomes_have [] [] same all = All-nil OfOutcomes
  outcomes_have [] (h ∷ hs) same all = cc
  outcomes_have (o ∷ os) [] same all = cc
  outcomes_have (o ∷ os) (h ∷ hs) same all =
      let first : h.page ≡ o.page = cc in
      let others : map outcomes_page os ≡ map head_page hs = cc in
      All-cons OfOutcomes o os (subst Q first (All-head OfHead h hs all)) (outcomes_have os hs others (All-tail OfHead h hs all))

-- ---- they fit

abbrev Differ : PageOutcomes → PageOutcomes → Type 0
Differ o p = o.page ≡ p.page → ⊥

apart_from : (o : PageOutcomes) (h : PageHead) (os : List PageOutcomes) (hs : List PageHead) → o.page ≡ h.page → map outcomes_page os ≡ map head_page hs → All (IsBelow head_page h) hs
    → All (Differ o) os
apart_from o h os hs first others below =
    outcomes_have (λ n. o.page ≡ n → ⊥) os hs others
    (λ i d within same. let no : Less ≡ Equal = sym (below i d within) ∙ tied_name (head_page h) (head_page (get_or hs i d)) (sym first ∙ same) in cc)

all_apart : (new : List PageOutcomes) (heads : List PageHead) → map outcomes_page new ≡ map head_page heads → IsInOrder head_page heads → AllPairs Differ new
all_apart [] heads same order = pairs_none Differ
all_apart (o ∷ os) [] same order = cc
all_apart (o ∷ os) (h ∷ hs) same order =
    let first : o.page ≡ h.page = cc in
    let others : map outcomes_page os ≡ map head_page hs = cc in
    AllPairs-cons Differ o os (apart_from o h os hs first others (in_order_first head_page h hs order)) (all_apart os hs others (in_order_rest head_page h hs order))

pub outcomes_fit : (site : List ℕ) (new : List PageOutcomes) (heads : List PageHead) → IsTrue (is_name site) → FitsHeads heads → map outcomes_page new ≡ map head_page heads
    → FitsOutcomes site new
outcomes_fit site new heads named fit same = record {
  name = named;
  pages = outcomes_have (λ n. IsTrue (is_name n)) new heads same (λ i d within. (fit.each i d within).page);
  distinct = all_apart new heads same fit.in_order;
}

-- ---- the first heads, and the others

order_take : (n : ℕ) (heads : List PageHead) → IsInOrder head_page heads → IsInOrder head_page (take n heads)
order_take zero heads order = in_order_none head_page
order_take (suc n) [] order = in_order_none head_page
order_take (suc n) (h ∷ hs) order =
    in_order_cons head_page h (take n hs) (All-take (IsBelow head_page h) n hs (in_order_first head_page h hs order)) (order_take n hs (in_order_rest head_page h hs order))

order_drop : (n : ℕ) (heads : List PageHead) → IsInOrder head_page heads → IsInOrder head_page (drop n heads)
order_drop zero heads order = order
order_drop (suc n) [] order = order
order_drop (suc n) (h ∷ hs) order = order_drop n hs (in_order_rest head_page h hs order)

pub first_fit : (n : ℕ) (heads : List PageHead) → FitsHeads heads → FitsHeads (take n heads)
first_fit n heads fit = record { each = All-take FitsHead n heads fit.each; in_order = order_take n heads fit.in_order }

pub others_fit : (n : ℕ) (heads : List PageHead) → FitsHeads heads → FitsHeads (drop n heads)
others_fit n heads fit = record { each = All-drop FitsHead n heads fit.each; in_order = order_drop n heads fit.in_order }
