-- Each criterion stands once in the list.
use Rattle.std.proofs.Common.{◌≡◌, refl}
use Rattle.reports.specs.declared.criterion.Criterion.{Criterion}
use Rattle.reports.specs.declared.criterion.Criterion.TheVariants.{NonTextContent}
use Rattle.reports.specs.Criteria.{HasEachOnce, all_criteria}

pub has_each_once : HasEachOnce all_criteria
has_each_once NonTextContent = refl
has_each_once other = refl
