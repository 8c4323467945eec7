use Rattle.std.proofs.Common.{length}
use Rattle.desk_core.proofs.editions.+refresh_pages.Given as goal

abbrev pub decreases-refresh_pages : goal.decreases-refresh_pages
decreases-refresh_pages g l = length l.heads.now
