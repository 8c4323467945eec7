use Rattle.desk_core.proofs.Refreshing.{gone_on}
use Rattle.desk_core.proofs.laws.laws_of_refresh.Goals as goal

pub returns-clause-gone_on : goal.returns-clause-gone_on
returns-clause-gone_on c = gone_on
