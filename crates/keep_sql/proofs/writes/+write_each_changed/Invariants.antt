use Rattle.std.proofs.Common.{length}
use Rattle.keep_sql.proofs.writes.+write_each_changed.Given as goal

abbrev pub decreases-write_each_changed : goal.decreases-write_each_changed
decreases-write_each_changed g l = length l.outcomes.now
