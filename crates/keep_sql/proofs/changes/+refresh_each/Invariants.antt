use Rattle.std.proofs.Common.{length}
use Rattle.keep_sql.proofs.changes.+refresh_each.Given as goal

abbrev pub decreases-refresh_each : goal.decreases-refresh_each
decreases-refresh_each g l = length l.outcomes.now
