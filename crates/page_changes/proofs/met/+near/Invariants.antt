use Rattle.page_changes.proofs.met.+near.Given as goal

abbrev pub decreases-near : goal.decreases-near
decreases-near l = l.steps
