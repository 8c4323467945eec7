use Rattle.std.proofs.Common.{◌+◌, ◌*◌, max, length}
use Rattle.reaudit.proofs.pages.+sharing.Given as goal

abbrev pub decreases-reaudit_both : goal.decreases-reaudit_both
decreases-reaudit_both g l = 3 * max (length l.first_books.now) (length l.later_books.now) + 2

abbrev pub decreases-reaudit_part : goal.decreases-reaudit_part
decreases-reaudit_part g l = 3 * length l.books.now

abbrev pub decreases-reaudit_both-first : goal.decreases-reaudit_both-first
decreases-reaudit_both-first g l = 3 * length l.first_books.now + 1

abbrev pub decreases-reaudit_both-later : goal.decreases-reaudit_both-later
decreases-reaudit_both-later g l = 3 * length l.later_books.now + 1
