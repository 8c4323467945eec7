use Rattle.std.proofs.Common.{◌≡◌, ◌++◌, take}
use Rattle.std.specs.List.{flat_map}
use Rattle.reports.specs.SiteReport.{page_line, site_sums}
use Rattle.reports.proofs.site.push_pages.Given as goal

abbrev pub invariant-loop-page : goal.invariant-loop-page
invariant-loop-page l =
    (l.report.items ≡ l.initial.report.items ++ flat_map (page_line l.infos) (take l.page-index l.pages))
    × (l.sums ≡ site_sums l.infos (take l.page-index l.pages))
