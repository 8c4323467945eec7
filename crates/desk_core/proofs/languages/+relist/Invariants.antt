use Rattle.std.proofs.Common.{length}
use Rattle.desk_core.proofs.languages.+relist.Given as goal

abbrev pub decreases-relist : goal.decreases-relist
decreases-relist g l = length l.heads.now
