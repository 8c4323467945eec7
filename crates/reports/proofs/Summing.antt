-- Sums over pages, one after another.
use Rattle.std.proofs.Common.{◌≡◌, ℕ, ◌+◌, ◌<◌, min, List, length, take, get_or, refl, ap, ◌∙◌, arith}
use Rattle.std.specs.List.{sum_by}
use Rattle.std.proofs.lemmas.List.Sums.{sum_by_more}
use Rattle.rule_core.specs.declared.info.RuleInfo.{RuleInfo}
use Rattle.keep_core.specs.declared.page.SitePage.{SitePage}
use Rattle.reports.specs.declared.sums.Sums.{Sums}
use Rattle.reports.specs.declared.sums.TheConstants.{MOST_SUM}
use Rattle.reports.specs.SiteReport.{page_sums, total, site_sums}
use Rattle.reports.specs.Walking.{added}

up_to : (a b c m : ℕ) → c ≡ a + b → min c m ≡ min (min a m + b) m
up_to a b c m is = omega (arith, is)

-- one page more
pub total_more : (part : Sums → ℕ) (infos : List RuleInfo) (pages : List SitePage) (i : ℕ) (d : SitePage) → i < length pages
    → total part infos (take (i + 1) pages) ≡ min (total part infos (take i pages) + part (page_sums infos (get_or pages i d).outcomes.rows)) MOST_SUM
total_more part infos pages i d inside =
    let f : SitePage → ℕ = λ page. part (page_sums infos page.outcomes.rows) in
    up_to (sum_by f (take i pages)) (f (get_or pages i d)) (sum_by f (take (i + 1) pages)) MOST_SUM (sum_by_more f pages i d inside)

pub sums_more : (infos : List RuleInfo) (pages : List SitePage) (i : ℕ) (page : SitePage) (before here now : Sums) → i < length pages → page ≡ get_or pages i page
    → before ≡ site_sums infos (take i pages) → here ≡ page_sums infos page.outcomes.rows → now ≡ added before here → now ≡ site_sums infos (take (i + 1) pages)
sums_more infos pages i page before here now inside at was counted is =
    let p : SitePage = get_or pages i page in
    let more : (part : Sums → ℕ) → total part infos (take (i + 1) pages) ≡ min (total part infos (take i pages) + part (page_sums infos p.outcomes.rows)) MOST_SUM =
    λ part. total_more part infos pages i page inside in
    let told : here ≡ page_sums infos p.outcomes.rows = counted ∙ ap (λ (q : SitePage). page_sums infos q.outcomes.rows) at in
    rw (is, was, told, more (λ s. s.passed), more (λ s. s.failed), more (λ s. s.cant_tell), more (λ s. s.inapplicable)) refl
