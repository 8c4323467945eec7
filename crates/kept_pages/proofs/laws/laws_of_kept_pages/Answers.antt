use Rattle.kept_pages.proofs.Found.{all_found, each_found}
use Rattle.kept_pages.proofs.laws.laws_of_kept_pages.Goals as goal

pub returns : goal.returns
returns c = record { all = all_found; each = each_found }
