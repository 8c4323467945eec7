-- A row is a table where its tag is that word.
use Rattle.std.proofs.Common.{◌≡◌, ℕ, List, [], ◌∷◌, codes, Bool, true, false, Option, Some, cond, option_and_then, refl, sym, ◌∙◌, ap}
use Rattle.std.proofs.lemmas.Slice.Eq.{bytes_eq-Decides}
use Rattle.std.specs.List.{find}
use Rattle.std.specs.Str.{bytes_eq}
use Rattle.snap_tree.specs.declared.row.Body.{Body}
use Rattle.snap_tree.specs.declared.row.Body.TheVariants.{Element, Words}
use Rattle.snap_tree.specs.declared.row.Space.TheVariants.{Html, Svg, Other}
use Rattle.snap_tree.specs.declared.row.Row.{Row}
use Rattle.snap_tree.specs.Rows.{is_html, is_html_body}
use Rattle.texts.specs.Words.{folded, same_folded}
use Rattle.acc_tree.specs.declared.tags.Tag.{Tag}
use Rattle.acc_tree.specs.declared.tags.Tag.TheVariants as tag
use Rattle.acc_tree.specs.Frames.{is_table}
use Rattle.acc_tree.specs.Tags.{tag_word, tag_among, all_tags, known_tag, space_in, tag_in, in_html, html_tag}

-- the first of some tags isn't that of tables, nor is what follows
one_other : (text : List ℕ) (t : Tag) (rest : Option Tag) (b : Bool) → same_folded text (tag_word t) ≡ b → same_folded text (codes "table") ≡ false → is_table rest ≡ false → is_table (cond b (Some t) rest) ≡ false
unfolding tag_word
one_other text t rest false e k h = h
one_other text tag.Table rest true e k h = cc
one_other text _ rest true e k h = refl

none_among : (text : List ℕ) → same_folded text (codes "table") ≡ false → (tags : List Tag) → is_table (tag_among text tags) ≡ false
none_among text k [] = refl
none_among text k (t ∷ tags) = one_other text t (tag_among text tags) (same_folded text (tag_word t)) refl k (none_among text k tags)

table_found : is_table (find (λ t. bytes_eq (folded (codes "table")) (folded (tag_word t))) all_tags) ≡ true
unfolding tag_word
table_found = refl

table_known : (text : List ℕ) → is_table (known_tag text) ≡ same_folded (codes "table") text
table_known text = by_test (same_folded (codes "table") text) refl (same_folded text (codes "table")) refl
  where
    by_test : (b : Bool) → same_folded (codes "table") text ≡ b → (c : Bool) → same_folded text (codes "table") ≡ c → is_table (known_tag text) ≡ b
    by_test true k c e =
        let is : folded text ≡ folded (codes "table") = sym ((bytes_eq-Decides (folded (codes "table")) (folded text)).0 k) in
        ap (λ f. is_table (find (λ t. bytes_eq f (folded (tag_word t))) all_tags)) is ∙ table_found
    by_test false k false e = none_among text e all_tags
    by_test false k true e =
        let yes : same_folded (codes "table") text ≡ true = (bytes_eq-Decides (folded (codes "table")) (folded text)).1 (sym ((bytes_eq-Decides (folded text) (folded (codes "table"))).0 e)) in
        cc

table_body : (body : Body) → is_table (in_html (space_in body) (option_and_then known_tag (tag_in body))) ≡ is_html_body (codes "table") body
table_body (Element Html text attrs) = table_known text
table_body (Element Svg text attrs) = refl
table_body (Element Other text attrs) = refl
table_body (Words text) = refl

pub table_tagged : (row : Row) → is_table (html_tag row) ≡ is_html (codes "table") row
table_tagged row = table_body row.body
