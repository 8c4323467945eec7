-- What the indexes of a tree find.
use Rattle.std.proofs.Common.{◌≡◌, ℕ, suc, ◌+◌, ◌-◌, ◌<◌, ◌≤◌, ◌==◌, List, [], ◌∷◌, length, get_or, map, filter, Bool, true, false, Some, None, refl, sym, ◌∙◌, ap, arith, subst, Option, IfSome, nat_lt, Bor}
use Rattle.std.proofs.lemmas.Bool.Decides.{nat_tests}
use Rattle.std.proofs.lemmas.List.Elements.{filter_agree}
use Rattle.std.specs.Option.{option_copied, is_some}
use Rattle.std.specs.List.{find}
use Rattle.snap_tree.specs.declared.row.Row.{Row}
use Rattle.snap_tree.specs.declared.row.Body.{Body}
use Rattle.snap_tree.specs.declared.row.Body.TheVariants.{Element, Words}
use Rattle.snap_tree.specs.declared.row.Space.TheVariants.{Html, Svg, Other}
use Rattle.snap_tree.specs.declared.groups.Key.TheVariants.{Tag}
use Rattle.texts.specs.Words.{folded}
use Rattle.snap_tree.specs.Rows.{is_html, is_html_body, is_key}
use Rattle.snap_tree.specs.Places.{place_from}
use Rattle.snap_tree.specs.Groups.{keyed, tag_in}

-- a place that was found is one of the rows, and the first of the number
pub record StandsAt (from n place : ℕ) (rows : List Row) : Type 0 where
  pub begins : from ≤ place
  pub ends : place < from + length rows
  pub row : (d : Row) → find (λ r. r.id.0 == n) rows ≡ Some (get_or rows (place - from) d)

stands_first : (from n : ℕ) (r : Row) (rows : List Row) → (r.id.0 == n) ≡ true → StandsAt from n from (r ∷ rows)
stands_first from n r rows e = record {
  begins = omega arith;
  ends = omega arith;
  row = λ d. let none : from - from ≡ 0 = omega arith in rw (e, none) refl;
}

stands_later : (from n place : ℕ) (r : Row) (rows : List Row) → (r.id.0 == n) ≡ false → StandsAt (from + 1) n place rows → StandsAt from n place (r ∷ rows)
stands_later from n place r rows e h =
    let step : place - from ≡ suc (place - (from + 1)) = omega (arith, h.begins) in
    record {
      begins = omega (arith, h.begins);
      ends = omega (arith, h.ends);
      row = λ d. rw (e, step) (h.row d);
    }

pub place_found : (from n place : ℕ) (rows : List Row) → place_from from n rows ≡ Some place → StandsAt from n place rows
place_found from n place [] h = cc
place_found from n place (r ∷ rows) h = by_test (r.id.0 == n) refl h (place_found (from + 1) n place rows)
  where
    by_test : (b : Bool) → (r.id.0 == n) ≡ b → place_from from n (r ∷ rows) ≡ Some place → (place_from (from + 1) n rows ≡ Some place → StandsAt (from + 1) n place rows) → StandsAt from n place (r ∷ rows)
    by_test true e h k = let is : Some from ≡ Some place = rw e at h in let same : from ≡ place = cc in subst (λ p. StandsAt from n p (r ∷ rows)) same (stands_first from n r rows e)
    by_test false e h k = let is : place_from (from + 1) n rows ≡ Some place = rw e at h in stands_later from n place r rows e (k is)

-- what a look at the place that was found gives is the row
pub row_found : (n place : ℕ) (rows : List Row) (o : Option (Bor Row)) → place_from 0 n rows ≡ Some place → is_some o ≡ nat_lt place (length rows) → IfSome o (λ x. x.now ≡ get_or rows place x.now) → option_copied o ≡ find (λ r. r.id.0 == n) rows
row_found n place rows None e k h =
    let at = place_found 0 n place rows e in
    let inside : nat_lt place (length rows) ≡ true = grind (arith, nat_tests, at.ends) in
    let no : false ≡ true = k ∙ inside in cc
row_found n place rows (Some x) e k h =
    let at = place_found 0 n place rows e in
    let same : place - 0 ≡ place = omega arith in
    sym (at.row x.now ∙ ap (λ p. Some (get_or rows p x.now)) same ∙ ap Some (sym h))

pub place_none : (from n : ℕ) (rows : List Row) → place_from from n rows ≡ None → find (λ r. r.id.0 == n) rows ≡ None
place_none from n [] h = refl
place_none from n (r ∷ rows) h = by_test (r.id.0 == n) refl h (place_none (from + 1) n rows)
  where
    by_test : (b : Bool) → (r.id.0 == n) ≡ b → place_from from n (r ∷ rows) ≡ None → (place_from (from + 1) n rows ≡ None → find (λ r. r.id.0 == n) rows ≡ None) → find (λ r. r.id.0 == n) (r ∷ rows) ≡ None
    by_test true e h k = let is : Some from ≡ None = rw e at h in cc
    by_test false e h k = let is : place_from (from + 1) n rows ≡ None = rw e at h in rw e (k is)

-- ---- tags

tag_is : (tag : List ℕ) (b : Body) → is_key (folded tag) (tag_in b) ≡ is_html_body tag b
tag_is tag (Element Html t attrs) = refl
tag_is tag (Element Svg t attrs) = refl
tag_is tag (Element Other t attrs) = refl
tag_is tag (Words text) = refl

pub tagged_is : (tag : List ℕ) (rows : List Row) → keyed Tag (folded tag) rows ≡ map (λ r. r.id) (filter (is_html tag) rows)
tagged_is tag rows = ap (map (λ r. r.id)) (filter_agree _ (is_html tag) (λ r. tag_is tag r.body) rows)
