use Rattle.std.proofs.Common.{◌+◌, ◌*◌, max, length}
use Rattle.audit.proofs.pages.+sharing.Given as goal

abbrev pub decreases-audit_both : goal.decreases-audit_both
decreases-audit_both g l = 3 * max (length l.first_books.now) (length l.later_books.now) + 2

abbrev pub decreases-audit_part : goal.decreases-audit_part
decreases-audit_part g l = 3 * length l.books.now

abbrev pub decreases-audit_both-first : goal.decreases-audit_both-first
decreases-audit_both-first g l = 3 * length l.first_books.now + 1

abbrev pub decreases-audit_both-later : goal.decreases-audit_both-later
decreases-audit_both-later g l = 3 * length l.later_books.now + 1
