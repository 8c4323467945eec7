-- Sums over pages that stop at a greatest number, one page after another.
use Rattle.std.proofs.Common.{◌≡◌, ℕ, ◌+◌, ◌<◌, min, List, length, take, get_or, refl, sym, ap, ◌∙◌, arith}
use Rattle.std.specs.List.{sum_by}
use Rattle.std.proofs.lemmas.List.Sums.{sum_by_more}
use Rattle.snap_tree.specs.Trees.{rows_of}
use Rattle.rule_core.specs.declared.info.RuleInfo.{RuleInfo}
use Rattle.judge_core.specs.declared.outcomes.Outcomes.{Outcomes}
use Rattle.audit.specs.declared.pages.PageWork.{PageWork}
use Rattle.reports.specs.declared.sums.Sums.{Sums}
use Rattle.reports.specs.declared.sums.TheConstants.{MOST_SUM}
use Rattle.reports.specs.SiteReport.{page_sums}
use Rattle.reports.specs.Walking.{added}
use Rattle.made_audit.specs.Line.{nodes_of, total, sums_of}

capped_more : {X : Type 0} (f : X → ℕ) (xs : List X) (i : ℕ) (d : X) (most : ℕ) → i < length xs
    → min (sum_by f (take (i + 1) xs)) most ≡ min (min (sum_by f (take i xs)) most + f (get_or xs i d)) most
capped_more f xs i d most inside = omega (arith, sum_by_more f xs i d inside)

pub nodes_more : (works : List PageWork) (i : ℕ) (work : PageWork) (before now : ℕ) → i < length works → work ≡ get_or works i work → before ≡ nodes_of (take i works)
    → now ≡ min (before + length (rows_of work.tree.trees)) MOST_SUM → now ≡ nodes_of (take (i + 1) works)
nodes_more works i work before now inside at was is =
    let f : PageWork → ℕ = λ w. length (rows_of w.tree.trees) in
    is ∙ ap (λ n. min (n + f work) MOST_SUM) was ∙ ap (λ w. min (nodes_of (take i works) + f w) MOST_SUM) at ∙ sym (capped_more f works i work MOST_SUM inside)

pub sums_more : (infos : List RuleInfo) (pages : List Outcomes) (i : ℕ) (page : Outcomes) (before here now : Sums) → i < length pages → page ≡ get_or pages i page → before ≡ sums_of infos (take i pages)
    → here ≡ page_sums infos page.rows → now ≡ added before here → now ≡ sums_of infos (take (i + 1) pages)
sums_more infos pages i page before here now inside at was counted is =
    let p : Outcomes = get_or pages i page in
    let more : (part : Sums → ℕ) → total part infos (take (i + 1) pages) ≡ min (total part infos (take i pages) + part (page_sums infos p.rows)) MOST_SUM =
    λ part. capped_more (λ (o : Outcomes). part (page_sums infos o.rows)) pages i page MOST_SUM inside in
    let told : here ≡ page_sums infos p.rows = counted ∙ ap (λ (q : Outcomes). page_sums infos q.rows) at in
    rw (is, was, told, more (λ s. s.passed), more (λ s. s.failed), more (λ s. s.cant_tell), more (λ s. s.inapplicable)) refl
