use Rattle.std.proofs.Common.{◌+◌, ◌*◌}
use Rattle.desk_core.proofs.building.+sharing.Given as goal

abbrev pub decreases-build_all : goal.decreases-build_all
decreases-build_all g l = 2 * l.threads

abbrev pub decreases-later : goal.decreases-later
decreases-later g l = 2 * l.rest + 1
