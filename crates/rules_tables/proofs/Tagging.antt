-- Whether an element is a table, by its known tag and by its tag as sent.
use Rattle.std.proofs.Common.{◌≡◌, ℕ, List, [], ◌∷◌, codes, Bool, true, false, cond, Option, Some, None, option_and_then, refl, sym, ap, ◌∙◌}
use Rattle.std.proofs.lemmas.Bool.{false≢true}
use Rattle.std.proofs.lemmas.Slice.Eq.{bytes_eq-Decides}
use Rattle.std.specs.List.{find}
use Rattle.std.specs.Str.{bytes_eq}
use Rattle.snap_tree.specs.declared.row.Body.{Body}
use Rattle.snap_tree.specs.declared.row.Body.TheVariants.{Element, Words}
use Rattle.snap_tree.specs.declared.row.Row.{Row}
use Rattle.snap_tree.specs.declared.row.Space.TheVariants.{Html, Svg, Other}
use Rattle.snap_tree.specs.Rows.{is_html, is_html_body}
use Rattle.texts.specs.Words.{folded, same_folded}
use Rattle.acc_tree.specs.declared.tags.Tag.{Tag}
use Rattle.acc_tree.specs.declared.tags.Tag.TheVariants as tag
use Rattle.acc_tree.specs.Frames.{is_table}
use Rattle.acc_tree.specs.Tags.{known_tag, space_in, tag_in, in_html, html_tag, all_tags, tag_word}

both_ways : (a b : Bool) → (a ≡ true → b ≡ true) → (b ≡ true → a ≡ true) → a ≡ b
both_ways true b f g = sym (f refl)
both_ways false true f g = g refl
both_ways false false f g = refl

found_passes : (p : Tag → Bool) (tags : List Tag) (t : Tag) → find p tags ≡ Some t → p t ≡ true
found_passes p [] t h = cc
found_passes p (x ∷ tags) t h = by_first (p x) refl h (found_passes p tags t)
  where
    by_first : (b : Bool) → p x ≡ b → cond b (Some x) (find p tags) ≡ Some t → (find p tags ≡ Some t → p t ≡ true) → p t ≡ true
    by_first true e h later = let same : x ≡ t = cc in sym (ap p same) ∙ e
    by_first false e h later = later h

table_only : (o : Option Tag) → is_table o ≡ true → o ≡ Some tag.Table
table_only (Some tag.Table) h = refl
table_only (Some _) h = absurd (false≢true h)
table_only None h = absurd (false≢true h)

table_found : (p : Tag → Bool) (tags : List Tag) → is_table (find p tags) ≡ true → p tag.Table ≡ true
table_found p tags h = found_passes p tags tag.Table (table_only (find p tags) h)

same_swapped : (a b : List ℕ) → same_folded a b ≡ true → same_folded b a ≡ true
same_swapped a b h = (bytes_eq-Decides (folded b) (folded a)).1 (sym ((bytes_eq-Decides (folded a) (folded b)).0 h))

-- a text that is equal but for case has the same known tag
pub same_known : (a b : List ℕ) → same_folded a b ≡ true → known_tag a ≡ known_tag b
same_known a b h = ap (λ w. find (λ t. bytes_eq w (folded (tag_word t))) all_tags) ((bytes_eq-Decides (folded a) (folded b)).0 h)

table_known : is_table (known_tag (codes "table")) ≡ true
unfolding tag_word
table_known = refl

table_word : (text : List ℕ) → same_folded text (tag_word tag.Table) ≡ true → same_folded (codes "table") text ≡ true
unfolding tag_word
table_word text h = same_swapped text (codes "table") h

pub known_table : (text : List ℕ) → is_table (known_tag text) ≡ same_folded (codes "table") text
known_table text =
    both_ways (is_table (known_tag text)) (same_folded (codes "table") text) (λ h. table_word text (table_found (λ t. same_folded text (tag_word t)) all_tags h))
    (λ h. sym (ap is_table (same_known (codes "table") text h)) ∙ table_known)

-- the known tag of an HTML element, by its body
abbrev pub tag_of : Body → Option Tag
tag_of b = in_html (space_in b) (option_and_then known_tag (tag_in b))

table_body : (b : Body) → is_table (tag_of b) ≡ is_html_body (codes "table") b
table_body (Element Html tag attrs) = known_table tag
table_body (Element Svg tag attrs) = refl
table_body (Element Other tag attrs) = refl
table_body (Words text) = refl

pub table_tag : (row : Row) → is_table (html_tag row) ≡ is_html (codes "table") row
table_tag row = table_body row.body
