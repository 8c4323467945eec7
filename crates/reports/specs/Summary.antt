-- The summary of pages that were audited.
use Rattle.std.specs.Prelude.{ℕ, List, ◌++◌, codes, decimal}
use Rattle.reports.specs.declared.sums.Sums.{Sums}
use Rattle.reports.specs.SiteReport.{sums_line}

unfoldable pub summary_front : ℕ → ℕ → List ℕ
summary_front pages nodes = codes "pages " ++ decimal pages ++ codes " nodes " ++ decimal nodes ++ codes " "

-- how many pages, how many nodes they have, and the sums of their outcomes
abbrev pub summary_line : ℕ → ℕ → Sums → List ℕ
summary_line pages nodes sums = summary_front pages nodes ++ sums_line sums
