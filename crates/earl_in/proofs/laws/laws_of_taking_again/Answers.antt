use Rattle.earl_in.proofs.Again.{taken_again}
use Rattle.earl_in.proofs.laws.laws_of_taking_again.Goals as goal

pub returns-clause-nothing : goal.returns-clause-nothing
returns-clause-nothing c = taken_again
