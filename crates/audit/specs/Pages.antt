-- The outcomes of many pages.
use Rattle.std.specs.Prelude.{ℕ, List, map, sum_by}
use Rattle.rule_core.specs.Books.{Book}
use Rattle.judge_core.specs.declared.outcomes.Outcomes.{Outcomes}
use Rattle.judge_core.specs.Outcomes.{outcomes, judgings}
use Rattle.audit.specs.declared.pages.PageWork.{PageWork}

-- the outcomes of a page under its judgements
abbrev pub page_outcomes : Book → PageWork → Outcomes
page_outcomes book page = record { rows = outcomes book page.tree page.judgements }

-- the outcomes of each page, in the order of the pages
abbrev pub pages_outcomes : Book → List PageWork → List Outcomes
pages_outcomes book pages = map (page_outcomes book) pages

-- the judgings of all the pages
abbrev pub pages_judgings : Book → List PageWork → ℕ
pages_judgings book pages = sum_by (λ page. judgings book page.tree) pages
