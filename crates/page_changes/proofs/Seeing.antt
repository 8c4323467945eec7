-- What is looked at of a row.
use Rattle.std.proofs.Common.{◌≡◌, ℕ, List, ◌∷◌, filter, Bool, true, false, refl, sym, ◌∙◌, ap}
use Rattle.std.proofs.lemmas.Slice.Eq.{bytes_eq-Decides}
use Rattle.std.specs.Cmp.{first_so}
use Rattle.std.specs.Cmp.Lexicographic.{pointwise}
use Rattle.std.specs.Str.{bytes_eq}
use Rattle.snap_tree.specs.declared.row.Attr.{Attr}
use Rattle.snap_tree.specs.declared.row.Row.{Row}
use Rattle.snap_tree.specs.declared.row.Body.{Body}
use Rattle.snap_tree.specs.declared.row.Body.TheVariants.{Element, Words}
use Rattle.snap_tree.specs.Rows.{is_html, is_html_body}
use Rattle.acc_tree.specs.Attributes.{is_looked_at}
use Rattle.acc_tree.specs.Seen.{seen_body, seen_row}
use Rattle.page_keys.specs.Same.{same_attr}

html_body_seen : (name : List ℕ) (body : Body) → is_html_body name body ≡ is_html_body name (seen_body body)
html_body_seen name (Element space tag attrs) = refl
html_body_seen name (Words text) = refl

-- the tag
pub html_seen : (name : List ℕ) (row : Row) → is_html name row ≡ is_html name (seen_row row)
html_seen name row = html_body_seen name row.body

-- two attributes that are the same change nothing
pub same_first : (a b : Attr) (xs ys : List Attr) → same_attr a b ≡ true
    → pointwise same_attr (filter (λ a. is_looked_at a.name) xs) (filter (λ a. is_looked_at a.name) ys) ≡ pointwise same_attr (filter (λ a. is_looked_at a.name) (a ∷ xs)) (filter (λ a. is_looked_at a.name) (b ∷ ys))
same_first a b xs ys e = by_test (is_looked_at a.name) refl
  where
    names : a.name ≡ b.name
    names = (bytes_eq-Decides a.name b.name).0 (first_so (bytes_eq a.name b.name) (bytes_eq a.value b.value) e)

    by_test : (t : Bool) → is_looked_at a.name ≡ t
        → pointwise same_attr (filter (λ a. is_looked_at a.name) xs) (filter (λ a. is_looked_at a.name) ys) ≡ pointwise same_attr (filter (λ a. is_looked_at a.name) (a ∷ xs)) (filter (λ a. is_looked_at a.name) (b ∷ ys))
    by_test true k = let l : is_looked_at b.name ≡ true = ap is_looked_at (sym names) ∙ k in rw (k, l, e) refl
    by_test false k = let l : is_looked_at b.name ≡ false = ap is_looked_at (sym names) ∙ k in rw (k, l) refl
