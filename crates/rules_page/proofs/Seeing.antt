-- What is seen of rows and trees says of a page what the page says itself.
use Rattle.std.proofs.Common.{◌≡◌, Bool, true, false, cond, ℕ, List, [], ◌∷◌, ◌++◌, map, ◌||◌, Option, Some, None, codes, refl, sym, ap, ◌∙◌}
use Rattle.std.specs.List.{list_any}
use Rattle.std.specs.Option.{option_or, option_map}
use Rattle.snap_tree.specs.declared.row.Body.{Body}
use Rattle.snap_tree.specs.declared.row.Body.TheVariants.{Element, Words}
use Rattle.snap_tree.specs.declared.row.Row.{Row}
use Rattle.snap_tree.specs.Rows.{is_html}
use Rattle.snap_tree.specs.Trees.{Trees, empty, tree, rows_of}
use Rattle.texts.specs.Words.{tidy}
use Rattle.acc_tree.specs.Seen.{seen_row, seen_body, seen}
use Rattle.acc_tree.proofs.Finding.{rows_seen}
use Rattle.rule_sights.proofs.Seeing.{html_seen}
use Rattle.rules_page.specs.LanguageOfParts.{is_filled, is_shown_text, shows_text}
use Rattle.rules_page.specs.PageTitle.{first_title, text_of, texts, page_title}

-- ---- the title

text_seen : (b : Body) → text_of (seen_body b) ≡ text_of b
text_seen (Element space tag attrs) = refl
text_seen (Words text) = refl

texts_seen : (t : Trees) → texts (seen t) ≡ texts t
texts_seen empty = refl
texts_seen (tree r kids after) = ap (λ text. text ++ texts (seen after)) (text_seen r.body) ∙ ap (λ later. text_of r.body ++ later) (texts_seen after)

or_seen : (a b : Option Trees) → option_or (option_map seen a) (option_map seen b) ≡ option_map seen (option_or a b)
or_seen None b = refl
or_seen (Some t) b = refl

first_seen : (t : Trees) → first_title (seen t) ≡ option_map seen (first_title t)
first_seen empty = refl
first_seen (tree r kids after) =
    by_tag (is_html (codes "title") r) (is_html (codes "title") (seen_row r)) (html_seen (codes "title") r)
    (ap (λ o. option_or o (first_title (seen after))) (first_seen kids) ∙ ap (option_or (option_map seen (first_title kids))) (first_seen after) ∙ or_seen (first_title kids) (first_title after))
  where
    by_tag : (is was : Bool) → was ≡ is → option_or (first_title (seen kids)) (first_title (seen after)) ≡ option_map seen (option_or (first_title kids) (first_title after)) → cond was (Some (seen kids)) (option_or (first_title (seen kids)) (first_title (seen after))) ≡ option_map seen (cond is (Some kids) (option_or (first_title kids) (first_title after)))
    by_tag true true e later = refl
    by_tag false false e later = later
    by_tag true false e later = cc
    by_tag false true e later = cc

title_of_seen : (o : Option Trees) → option_map (λ kids. tidy (texts kids)) (option_map seen o) ≡ option_map (λ kids. tidy (texts kids)) o
title_of_seen None = refl
title_of_seen (Some kids) = ap (λ text. Some (tidy text)) (texts_seen kids)

pub title_seen : (t : Trees) → page_title (seen t) ≡ page_title t
title_seen t = ap (option_map (λ kids. tidy (texts kids))) (first_seen t) ∙ title_of_seen (first_title t)

-- ---- texts that are shown

filled_seen : (b : Body) → is_filled (seen_body b) ≡ is_filled b
filled_seen (Element space tag attrs) = refl
filled_seen (Words text) = refl

any_seen : (rows : List Row) → list_any is_shown_text (map seen_row rows) ≡ list_any is_shown_text rows
any_seen [] = refl
any_seen (row ∷ rows) = rw (filled_seen row.body, any_seen rows) refl

pub shown_seen : (t : Trees) → shows_text (seen t) ≡ list_any is_shown_text (rows_of t)
shown_seen t = ap (list_any is_shown_text) (rows_seen t) ∙ any_seen (rows_of t)

-- ---- rows

pub rows_of_seen : (t : Trees) → rows_of (seen t) ≡ map seen_row (rows_of t)
rows_of_seen t = rows_seen t
