use Rattle.std.proofs.Common.{length}
use Rattle.keep_sql.proofs.writes.+add_outcomes.Given as goal

abbrev pub decreases-add_outcomes : goal.decreases-add_outcomes
decreases-add_outcomes g l = length l.outcomes.now
