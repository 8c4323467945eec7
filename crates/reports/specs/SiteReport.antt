-- The report of a site: a line for each page, a line for each success criterion, and the sums of all pages.
use Rattle.std.specs.Prelude.{ℕ, List, ◌++◌, length, min, codes, decimal}
use Rattle.std.specs.List.{flat_map, sum_by}
use Rattle.rule_core.specs.declared.info.RuleInfo.{RuleInfo}
use Rattle.rule_core.specs.declared.verdict.Auto.TheVariants.{Passed, Failed, CantTell}
use Rattle.judge_core.specs.declared.outcomes.OutRow.{OutRow}
use Rattle.keep_core.specs.declared.page.SitePage.{SitePage}
use Rattle.reports.specs.declared.criterion.Criterion.{Criterion}
use Rattle.reports.specs.declared.sums.Sums.{Sums}
use Rattle.reports.specs.declared.sums.TheConstants.{MOST_SUM}
use Rattle.reports.specs.TextReport.{line_end, count_of, inapplicable, totals_line}
use Rattle.reports.specs.Criteria.{number_of, level_of, all_criteria, level_word, criteria, result_word}

-- ---- sums

-- how many rows of these rules have each final outcome, and how many of the rules are inapplicable
abbrev pub page_sums : List RuleInfo → List OutRow → Sums
page_sums infos rows = record {
  passed = count_of Passed infos rows;
  failed = count_of Failed infos rows;
  cant_tell = count_of CantTell infos rows;
  inapplicable = inapplicable infos rows;
}

-- a sum over pages, which stops at the greatest 64-bit number
abbrev pub total : (Sums → ℕ) → List RuleInfo → List SitePage → ℕ
total part infos pages = min (sum_by (λ page. part (page_sums infos page.outcomes.rows)) pages) MOST_SUM

abbrev pub site_sums : List RuleInfo → List SitePage → Sums
site_sums infos pages = record {
  passed = total (λ s. s.passed) infos pages;
  failed = total (λ s. s.failed) infos pages;
  cant_tell = total (λ s. s.cant_tell) infos pages;
  inapplicable = total (λ s. s.inapplicable) infos pages;
}

abbrev pub sums_line : Sums → List ℕ
sums_line sums = totals_line sums.passed sums.failed sums.cant_tell sums.inapplicable

-- ---- lines

unfoldable pub page_front : SitePage → List ℕ
page_front page = codes "page " ++ page.head.page ++ codes " rev " ++ decimal page.head.rev ++ codes " "

abbrev pub page_line : List RuleInfo → SitePage → List ℕ
page_line infos page = page_front page ++ sums_line (page_sums infos page.outcomes.rows)

unfoldable pub criterion_line : List SitePage → Criterion → List ℕ
criterion_line pages criterion =
    codes "criterion " ++ number_of criterion ++ codes " " ++ level_word (level_of criterion) ++ codes " " ++ result_word (criteria pages criterion) ++ line_end

unfoldable pub total_front : ℕ → List ℕ
total_front pages = codes "total pages " ++ decimal pages ++ codes " "

abbrev pub total_line : List RuleInfo → List SitePage → List ℕ
total_line infos pages = total_front (length pages) ++ sums_line (site_sums infos pages)

-- ---- the report

-- The report of a site of this name, by these rules. A row of none of the rules is passed over, but under a
-- criterion, which knows its own rules.
unfoldable pub site_report : List ℕ → List RuleInfo → List SitePage → List ℕ
site_report site infos pages =
    codes "site " ++ site ++ line_end
    ++ flat_map (page_line infos) pages
    ++ flat_map (criterion_line pages) all_criteria
    ++ total_line infos pages
