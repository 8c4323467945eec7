use Rattle.std.proofs.Common.{◌+◌, ◌*◌}
use Rattle.case_run.proofs.going.+sharing.Given as goal

abbrev pub decreases-go : goal.decreases-go
decreases-go g l = 2 * l.threads

abbrev pub decreases-later : goal.decreases-later
decreases-later g l = 2 * l.rest + 1
