-- What is written of a site's languages is read back.
use Rattle.std.proofs.Common.{◌≡◌, ℕ, suc, pos, ◌<◌, List, [], ◌∷◌, map, cond, is_none, Option, Some, None, refl, sym, ap, ap₂, ◌∙◌, arith}
use Rattle.std.specs.List.{All}
use Rattle.std.proofs.lemmas.Bool.Decides.{nat_tests}
use Rattle.std.proofs.lemmas.List.Elements.{All-nil, All-cons}
use Rattle.sqlite_value.specs.declared.value.Value.TheVariants.{Int, Text}
use Rattle.sqlite_value.specs.Order.{Row, column}
use Rattle.snap_tree.specs.Langs.{AreLangs, langs_fault}
use Rattle.named_rows.specs.ByName.{names_cmp, IsInOrder}
use Rattle.named_rows.proofs.Order.{IsBelow, in_order_cons, in_order_none}
use Rattle.sql_rows.specs.Tables.{name_at, number_letters}
use Rattle.store_tables.specs.Reading.{read_counted}
use Rattle.store_tables.specs.Cells.{place_in, text_in}
use Rattle.store_tables.specs.Languages.{language_cells, languages_cells, language_rows, language_from, of_form, languages_shown}
use Rattle.store_tables.proofs.Steps.{some_same, none_some, both_read}
use Rattle.store_tables.proofs.Counted.{first_counted}
use Rattle.store_tables.proofs.Appending.{in_order_same}
use Rattle.store_tables.proofs.Places.{letters_below}

abbrev pub shown_language : Row → Row
shown_language r = column r 1 ∷ column r 2 ∷ []

above : (site : List ℕ) (r : Row) (k : ℕ) → name_at 1 r ≡ number_letters (pos k) → (place : ℕ) → k < place → (tags : List (List ℕ)) → All (IsBelow (name_at 1) r) (languages_cells site place tags)
above site r k named place less [] = All-nil (IsBelow (name_at 1) r)
above site r k named place less (tag ∷ tags) =
    All-cons (IsBelow (name_at 1) r) (language_cells site place tag) (languages_cells site (suc place) tags) (ap (λ n. names_cmp n (number_letters (pos place))) named ∙ letters_below k place less)
    (above site r k named (suc place) (omega (arith, less)) tags)

pub languages_in_order : (site : List ℕ) (place : ℕ) (tags : List (List ℕ)) → IsInOrder (name_at 1) (languages_cells site place tags)
languages_in_order site place [] = in_order_none (name_at 1)
languages_in_order site place (tag ∷ tags) =
    in_order_cons (name_at 1) (language_cells site place tag) (languages_cells site (suc place) tags) (above site (language_cells site place tag) place refl (suc place) (omega arith) tags)
    (languages_in_order site (suc place) tags)

-- the rows of a list are its cells
pub rows_are_cells : (site : List ℕ) (langs : List (List ℕ)) → language_rows site langs ≡ languages_cells site 1 langs
rows_are_cells site langs = in_order_same (name_at 1) (languages_cells site 1 langs) (languages_in_order site 1 langs)

language_back : (site : List ℕ) (place : ℕ) (tag t : List ℕ) → language_from place (shown_language (language_cells site place tag)) ≡ Some t → t ≡ tag
unfolding language_from
language_back site place tag t is = let a = both_read (place_in place (Int (pos place))) (λ _. text_in (Text tag)) t is in sym (some_same tag t a.2)

each_back : (site : List ℕ) (place : ℕ) (tags ts : List (List ℕ)) → read_counted language_from place (map shown_language (languages_cells site place tags)) ≡ Some ts → ts ≡ tags
each_back site place [] ts is = sym (some_same [] ts is)
each_back site place (tag ∷ tags) ts is =
    let f = first_counted language_from place (shown_language (language_cells site place tag)) (map shown_language (languages_cells site (suc place) tags)) ts is in
    f.4 ∙ ap₂ (λ x xs. x ∷ xs) (language_back site place tag f.0 f.2) (each_back site (suc place) tags f.1 f.3)

form_same : (langs ls : List (List ℕ)) → of_form langs ≡ Some ls → langs ≡ ls
form_same langs ls is = by (langs_fault langs) is
  where
    by : (fault : Option ℕ) → cond (is_none fault) (Some langs) None ≡ Some ls → langs ≡ ls
    by None is = some_same langs ls is
    by (Some place) is = absurd (none_some ls is)

pub languages_back : (site : List ℕ) (langs ls : List (List ℕ)) → languages_shown (map shown_language (language_rows site langs)) ≡ Some ls → ls ≡ langs
languages_back site langs ls is =
    let cells = sym (ap (λ (rs : List Row). languages_shown (map shown_language rs)) (rows_are_cells site langs)) ∙ is in
    let a = both_read {B = List (List ℕ)} (read_counted language_from 1 (map shown_language (languages_cells site 1 langs))) of_form ls cells in
    sym (form_same a.0 ls a.2) ∙ each_back site 1 langs a.0 a.1

language_shows : (site : List ℕ) (place : ℕ) (tag : List ℕ) → language_from place (shown_language (language_cells site place tag)) ≡ Some tag
unfolding language_from
language_shows site place tag = rw (same_place place) refl
  where
    same_place : (n : ℕ) → place_in n (Int (pos n)) ≡ Some n
    same_place n = grind (arith, nat_tests)

each_shows : (site : List ℕ) (place : ℕ) (tags : List (List ℕ)) → read_counted language_from place (map shown_language (languages_cells site place tags)) ≡ Some tags
each_shows site place [] = refl
each_shows site place (tag ∷ tags) = rw (language_shows site place tag, each_shows site (suc place) tags) refl

-- and a list of the form reads
pub languages_show : (site : List ℕ) (langs : List (List ℕ)) → AreLangs langs → languages_shown (map shown_language (language_rows site langs)) ≡ Some langs
languages_show site langs form =
    ap (λ (rs : List Row). languages_shown (map shown_language rs)) (rows_are_cells site langs)
    ∙ rw (each_shows site 1 langs) (ap (λ (f : Option ℕ). cond (is_none f) (Some langs) None) form)
