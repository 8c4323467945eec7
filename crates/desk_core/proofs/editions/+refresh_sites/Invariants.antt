use Rattle.std.proofs.Common.{length}
use Rattle.desk_core.proofs.editions.+refresh_sites.Given as goal

abbrev pub decreases-refresh_sites : goal.decreases-refresh_sites
decreases-refresh_sites g l = length l.names.now
