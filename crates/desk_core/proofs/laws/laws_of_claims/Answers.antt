use Rattle.desk_core.proofs.Between.{adds_nothing_again}
use Rattle.desk_core.proofs.ClaimLaws.{others_alone, page_has_taken}
use Rattle.desk_core.proofs.laws.laws_of_claims.Goals as goal

pub returns-clause-alone : goal.returns-clause-alone
returns-clause-alone c = others_alone

pub returns-clause-added : goal.returns-clause-added
returns-clause-added c = page_has_taken

pub returns-clause-again : goal.returns-clause-again
returns-clause-again c = λ book caller site. adds_nothing_again book site caller
