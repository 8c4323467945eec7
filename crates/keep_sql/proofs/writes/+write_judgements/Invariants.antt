use Rattle.std.proofs.Common.{length}
use Rattle.keep_sql.proofs.writes.+write_judgements.Given as goal

abbrev pub decreases-write_judgements : goal.decreases-write_judgements
decreases-write_judgements g l = length l.js.now
