-- The title of a page is told by the subtrees of its `title` elements.
use Rattle.std.proofs.Common.{◌≡◌, List, [], ◌∷◌, ◌++◌, map, filter, codes, Bool, true, false, cond, if◌then◌else◌, Option, Some, None, option_map, refl, sym, ◌∙◌, ap}
use Rattle.std.proofs.lemmas.List.{map-append}
use Rattle.std.proofs.lemmas.List.Elements.{filter-append}
use Rattle.std.specs.Option.{option_or}
use Rattle.snap_tree.specs.declared.row.NodeId.{NodeId}
use Rattle.snap_tree.specs.declared.row.Row.{Row}
use Rattle.snap_tree.specs.Lookups.{tagged}
use Rattle.snap_tree.specs.Rows.{is_html}
use Rattle.snap_tree.specs.Trees.{Trees, empty, tree, rows_of}
use Rattle.texts.specs.Words.{tidy}
use Rattle.page_keys.specs.Classes.{is_root}
use Rattle.page_keys.specs.Laws.{inner, subtree, root_titles}
use Rattle.page_keys.specs.Standing.{spot_with, Stand, IsPage}
use Rattle.page_keys.proofs.Agreeing.{spot_sight}
use Rattle.page_keys.proofs.Stands.{all_stand}
use Rattle.rules_page.specs.PageTitle.{first_title, texts, page_title}
use Rattle.rules_page.proofs.TitleAmong.{first_below, title_among}

first_beside : (xs ys : List (Option (Row × Trees))) → first_below (xs ++ ys) ≡ option_or (first_below xs) (first_below ys)
first_beside [] ys = refl
first_beside (None ∷ xs) ys = first_beside xs ys
first_beside (Some x ∷ xs) ys = refl

is_title : Row → Bool
is_title = is_html (codes "title")

-- the subtrees, on a page, of the titles among some rows
abbrev subtrees_of : Trees → List Row → List (Option (Row × Trees))
subtrees_of page rows = map (subtree page) (map (λ (r : Row). r.id) (filter is_title rows))

subtrees_beside : (page : Trees) (xs ys : List Row) → subtrees_of page (xs ++ ys) ≡ subtrees_of page xs ++ subtrees_of page ys
subtrees_beside page xs ys =
    ap (λ rows. map (subtree page) (map (λ (r : Row). r.id) rows)) (filter-append is_title xs ys)
    ∙ ap (map (subtree page)) (map-append (λ (r : Row). r.id) (filter is_title xs) (filter is_title ys))
    ∙ map-append (subtree page) (map (λ (r : Row). r.id) (filter is_title xs)) (map (λ (r : Row). r.id) (filter is_title ys))

first_is : (page : Trees) (above : List Row) (part : Trees) → Stand page above part → first_title part ≡ first_below (subtrees_of page (rows_of part))
unfolding is_title
first_is page above empty at = refl
first_is page above (tree row kids after) at = by_tag (is_title row) refl (first_is page (row ∷ above) kids at.1.0) (first_is page above after at.1.1)
  where
    by_tag : (b : Bool) → is_title row ≡ b → first_title kids ≡ first_below (subtrees_of page (rows_of kids)) → first_title after ≡ first_below (subtrees_of page (rows_of after))
        → (if b then Some kids else option_or (first_title kids) (first_title after))
        ≡ first_below (map (subtree page) (map (λ (r : Row). r.id) (cond b (row ∷ filter is_title (rows_of kids ++ rows_of after)) (filter is_title (rows_of kids ++ rows_of after)))))
    by_tag true e here later =
        sym (ap (λ o. first_below (option_map inner o ∷ subtrees_of page (rows_of kids ++ rows_of after))) (spot_sight page row.id (spot_with row kids above) at.0))
    by_tag false e here later =
        (λ i. option_or (here i) (later i)) ∙ sym (first_beside (subtrees_of page (rows_of kids)) (subtrees_of page (rows_of after)))
        ∙ sym (ap first_below (subtrees_beside page (rows_of kids) (rows_of after)))

pub title_told : (t : Trees) → IsPage t → (n : NodeId) → is_root t n ≡ true → page_title t ≡ title_among (root_titles t n)
unfolding is_title
title_told t page n root =
    ap (option_map (λ (kids : Trees). tidy (texts kids))) (first_is t [] t (all_stand t page.apart))
    ∙ sym (ap (λ b. title_among (if b then map (subtree t) (tagged t (codes "title")) else [])) root)
