use Rattle.desk_core.proofs.Revisions.{revisions_within, revisions_rise, put_is_newer, put_is_newest, accepted_once}
use Rattle.desk_core.proofs.laws.laws_of_revisions.Goals as goal

pub returns-clause-within : goal.returns-clause-within
returns-clause-within c = revisions_within

pub returns-clause-rises : goal.returns-clause-rises
returns-clause-rises c = revisions_rise

pub returns-clause-newer : goal.returns-clause-newer
returns-clause-newer c = put_is_newer

pub returns-clause-newest : goal.returns-clause-newest
returns-clause-newest c = put_is_newest

pub returns-clause-once : goal.returns-clause-once
returns-clause-once c = accepted_once
