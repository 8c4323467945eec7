use Rattle.std.proofs.Common.{length}
use Rattle.keep_sql.proofs.writes.+add_languages.Given as goal

abbrev pub decreases-add_languages : goal.decreases-add_languages
decreases-add_languages g l = length l.languages.now
