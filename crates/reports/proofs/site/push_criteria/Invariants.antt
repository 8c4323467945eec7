use Rattle.std.proofs.Common.{◌≡◌, ◌++◌, take}
use Rattle.std.specs.List.{flat_map}
use Rattle.reports.specs.declared.criterion.TheConstants.{CRITERIA}
use Rattle.reports.specs.SiteReport.{criterion_line}
use Rattle.reports.proofs.site.push_criteria.Given as goal

abbrev pub invariant-loop-criterion : goal.invariant-loop-criterion
invariant-loop-criterion l = l.report.items ≡ l.initial.report.items ++ flat_map (criterion_line l.pages) (take l.criterion-index CRITERIA)
