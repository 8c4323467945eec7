use Rattle.earl_in.proofs.Again.{each_counts, added_are_judged, added_were_sent, added_are_new}
use Rattle.earl_in.proofs.laws.laws_of_taking.Goals as goal

pub returns-clause-counted : goal.returns-clause-counted
returns-clause-counted c = each_counts

pub returns-clause-judged : goal.returns-clause-judged
returns-clause-judged c = added_are_judged

pub returns-clause-sent : goal.returns-clause-sent
returns-clause-sent c = added_were_sent

pub returns-clause-fresh : goal.returns-clause-fresh
returns-clause-fresh c = added_are_new
