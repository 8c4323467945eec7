-- What the pages that a number makes come to by a book, in one line.
use Rattle.std.specs.Prelude.{ℕ, ◌+◌, ◌<◌, ◌^◌, List, [], length, map, min, sum_by}
use Rattle.std.specs.List.{range_with_len}
use Rattle.snap_tree.specs.Trees.{Document, rows_of}
use Rattle.snap_tree.specs.Grown.{page_of}
use Rattle.rule_core.specs.declared.info.RuleInfo.{RuleInfo}
use Rattle.rule_core.specs.Books.{Book}
use Rattle.judge_core.specs.declared.outcomes.Outcomes.{Outcomes}
use Rattle.audit.specs.declared.pages.PageWork.{PageWork}
use Rattle.audit.specs.Pages.{pages_outcomes}
use Rattle.reports.specs.declared.sums.Sums.{Sums}
use Rattle.reports.specs.declared.sums.TheConstants.{MOST_SUM}
use Rattle.reports.specs.SiteReport.{page_sums}
use Rattle.reports.specs.Walking.{added}
use Rattle.reports.specs.Summary.{summary_line}
use Rattle.made_pages.specs.Pages.{made_page, made_pages}
use Rattle.made_audit.specs.declared.counted.Counted.{Counted}
use Rattle.made_audit.specs.declared.span.Span.{Span}

-- a page of which nothing was judged
abbrev pub unjudged : Document → PageWork
unjudged page = record { tree = page; judgements = [] }

abbrev pub made_works : ℕ → ℕ → List PageWork
made_works number pages = map unjudged (made_pages number pages)

-- how many nodes pages have; the sum stops at the greatest 64-bit number
abbrev pub nodes_of : List PageWork → ℕ
nodes_of works = min (sum_by (λ work. length (rows_of work.tree.trees)) works) MOST_SUM

-- a sum over pages, which stops there too
abbrev pub total : (Sums → ℕ) → List RuleInfo → List Outcomes → ℕ
total part infos pages = min (sum_by (λ page. part (page_sums infos page.rows)) pages) MOST_SUM

abbrev pub sums_of : List RuleInfo → List Outcomes → Sums
sums_of infos pages = record {
  passed = total (λ s. s.passed) infos pages;
  failed = total (λ s. s.failed) infos pages;
  cant_tell = total (λ s. s.cant_tell) infos pages;
  inapplicable = total (λ s. s.inapplicable) infos pages;
}

-- the line of pages with these outcomes
abbrev pub line_of : List RuleInfo → List PageWork → List Outcomes → List ℕ
line_of infos works outcomes = summary_line (length works) (nodes_of works) (sums_of infos outcomes)

-- the line of the pages that a number makes
abbrev pub made_line : Book → ℕ → ℕ → List ℕ
made_line book number pages =
    line_of book.infos (made_works number pages) (pages_outcomes book (made_works number pages))

-- ---- in parts

-- page i, of which nothing was judged
unfoldable pub made_work : ℕ → ℕ → PageWork
made_work number i = unjudged (page_of (made_page number i))

-- the pages of a span
unfoldable pub span_works : Span → List PageWork
span_works span = map unjudged (map (λ i. page_of (made_page span.number i)) (range_with_len (span.earlier + 1) span.pages))

-- the last page of a span has a 32-bit number
abbrev pub Numbered : Span → Type 0
Numbered span = span.earlier + span.pages < 2 ^ 32

-- what pages come to by a book
abbrev pub come_to : Book → List PageWork → Counted
come_to book works = record { nodes = nodes_of works; sums = sums_of book.infos (pages_outcomes book works) }

-- what two parts of the pages come to together
abbrev pub both : Counted → Counted → Counted
both one other = record { nodes = min (one.nodes + other.nodes) MOST_SUM; sums = added one.sums other.sums }
