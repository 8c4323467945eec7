use Rattle.std.proofs.Common.{◌+◌, ◌*◌}
use Rattle.case_run.proofs.letting.+sharing.Given as goal

abbrev pub decreases-read_parts : goal.decreases-read_parts
decreases-read_parts g l = 2 * l.threads

abbrev pub decreases-later : goal.decreases-later
decreases-later g l = 2 * l.rest + 1
