-- What rows come to under a criterion, one after another.
use Rattle.std.proofs.Common.{◌≡◌, ℕ, ◌<◌, ◌+◌, Bool, true, false, cond, ◌||◌, ◌&&◌, List, [], ◌∷◌, ◌++◌, length, take, get_or, filter, map, flat_map, refl, sym, ap, ◌∙◌, append-nil}
use Rattle.std.specs.List.{list_any}
use Rattle.std.proofs.lemmas.List.{take_more, map-append}
use Rattle.std.proofs.lemmas.List.Folds.{list_any-append}
use Rattle.std.proofs.lemmas.List.Elements.{filter-append}
use Rattle.std.proofs.lemmas.Grind.{flat_map-append}
use Rattle.rule_core.specs.declared.verdict.Auto.{Auto}
use Rattle.rule_core.specs.declared.verdict.Auto.TheVariants as auto
use Rattle.judge_core.specs.declared.outcomes.OutRow.{OutRow}
use Rattle.keep_core.specs.declared.page.SitePage.{SitePage}
use Rattle.reports.specs.declared.criterion.Criterion.{Criterion}
use Rattle.reports.specs.declared.criterion.Result4.{Result4}
use Rattle.reports.specs.declared.criterion.Result4.TheVariants.{Failed, CantTell, NoFailureFound, Inapplicable}
use Rattle.reports.specs.TextReport.{is_outcome}
use Rattle.reports.specs.Criteria.{counts_under, is_empty, result_of, criteria}
use Rattle.reports.specs.Walking.{worse, told, result_in}

abbrev picked : Bool → Bool → Bool → Result4
picked failed cant_tell none = cond failed Failed (cond cant_tell CantTell (cond none Inapplicable NoFailureFound))

both : (f g o p m n : Bool) → picked (f || g) (o || p) (m && n) ≡ worse (picked f o m) (picked g p n)
both true g o p m n = refl
both false true true p m n = refl
both false true false p true n = refl
both false true false p false n = refl
both false false true true m n = refl
both false false true false m true = refl
both false false true false m false = refl
both false false false true true n = refl
both false false false true false n = refl
both false false false false true n = refl
both false false false false false true = refl
both false false false false false false = refl

none_of_both : (xs ys : List Auto) → is_empty (xs ++ ys) ≡ (is_empty xs && is_empty ys)
none_of_both [] ys = refl
none_of_both (x ∷ xs) ys = refl

-- what outcomes and further ones come to
pub result_of_both : (xs ys : List Auto) → result_of (xs ++ ys) ≡ worse (result_of xs) (result_of ys)
result_of_both xs ys =
    rw (list_any-append (is_outcome auto.Failed) xs ys, list_any-append (is_outcome auto.CantTell) xs ys, none_of_both xs ys)
    (both (list_any (is_outcome auto.Failed) xs) (list_any (is_outcome auto.Failed) ys) (list_any (is_outcome auto.CantTell) xs) (list_any (is_outcome auto.CantTell) ys) (is_empty xs) (is_empty ys))

-- what rows and further ones come to
pub result_in_both : (c : Criterion) (xs ys : List OutRow) → result_in c (xs ++ ys) ≡ worse (result_in c xs) (result_in c ys)
result_in_both c xs ys =
    ap result_of (ap (map (λ row. row.last)) (filter-append (counts_under c) xs ys) ∙ map-append (λ row. row.last) (filter (counts_under c) xs) (filter (counts_under c) ys))
    ∙ result_of_both (map (λ row. row.last) (filter (counts_under c) xs)) (map (λ row. row.last) (filter (counts_under c) ys))

-- one row more
pub row_more : (c : Criterion) (rows : List OutRow) (i : ℕ) (row : OutRow) (before now : Result4) → i < length rows → row ≡ get_or rows i row → before ≡ result_in c (take i rows)
    → now ≡ worse before (result_in c (row ∷ [])) → now ≡ result_in c (take (i + 1) rows)
row_more c rows i row before now inside at was is =
    let more : take (i + 1) rows ≡ take i rows ++ row ∷ [] = take_more rows i row inside ∙ ap (λ r. take i rows ++ r ∷ []) (sym at) in
    is ∙ ap (λ r. worse r (result_in c (row ∷ []))) was ∙ sym (result_in_both c (take i rows) (row ∷ [])) ∙ ap (result_in c) (sym more)

-- one page more
pub page_more : (c : Criterion) (pages : List SitePage) (i : ℕ) (page : SitePage) (before now : Result4) → i < length pages → page ≡ get_or pages i page → before ≡ criteria (take i pages) c
    → now ≡ worse before (result_in c page.outcomes.rows) → now ≡ criteria (take (i + 1) pages) c
page_more c pages i page before now inside at was is =
    let rows : SitePage → List OutRow = λ p. p.outcomes.rows in
    let all : List SitePage → List OutRow = flat_map rows in
    let more : take (i + 1) pages ≡ take i pages ++ page ∷ [] = take_more pages i page inside ∙ ap (λ p. take i pages ++ p ∷ []) (sym at) in
    let one : all (take (i + 1) pages) ≡ all (take i pages) ++ rows page =
    ap all more ∙ flat_map-append rows (take i pages) (page ∷ []) ∙ ap (λ l. all (take i pages) ++ l) (append-nil (rows page)) in
    is ∙ ap (λ r. worse r (result_in c (rows page))) was ∙ sym (result_in_both c (all (take i pages)) (rows page)) ∙ ap (result_in c) (sym one)

-- a row by itself
pub one_row : (c : Criterion) (row : OutRow) (result : Bool) → counts_under c row ≡ result → result_in c (row ∷ []) ≡ cond result (told row.last) Inapplicable
one_row c row true is = rw is (alone row.last)
  where
    alone : (outcome : Auto) → result_of (outcome ∷ []) ≡ told outcome
    alone auto.Passed = refl
    alone auto.Failed = refl
    alone auto.CantTell = refl
one_row c row false is = rw is refl

pub with_none : (r : Result4) → worse r Inapplicable ≡ r
with_none Failed = refl
with_none CantTell = refl
with_none NoFailureFound = refl
with_none Inapplicable = refl
