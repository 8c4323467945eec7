use Rattle.std.proofs.Common.{◌+◌, ◌*◌, max, length}
use Rattle.made_audit.proofs.workers.+sharing.Given as goal

abbrev pub decreases-count_both : goal.decreases-count_both
decreases-count_both g l = 3 * max (length l.first_books.now) (length l.later_books.now) + 2

abbrev pub decreases-count_part : goal.decreases-count_part
decreases-count_part g l = 3 * length l.books.now

abbrev pub decreases-count_both-first : goal.decreases-count_both-first
decreases-count_both-first g l = 3 * length l.first_books.now + 1

abbrev pub decreases-count_both-later : goal.decreases-count_both-later
decreases-count_both-later g l = 3 * length l.later_books.now + 1
