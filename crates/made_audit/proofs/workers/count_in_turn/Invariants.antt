use Rattle.std.proofs.Common.{◌≡◌, ◌+◌, ◌<◌, ◌≤◌, length}
use Rattle.std.specs.List.{sum_by}
use Rattle.audit.specs.Pages.{pages_judgings}
use Rattle.made_audit.specs.Line.{come_to, span_works}
use Rattle.made_audit.proofs.workers.count_in_turn.Given as goal

abbrev pub invariant-loop-more : goal.invariant-loop-more
invariant-loop-more g l = record {
  counted : l.counted ≡ come_to g.B.RuleBook.book (span_works (record { number = l.number; earlier = l.earlier; pages = l.more }));
  judged : sum_by g.B.RuleBook.calls l.books ≤ sum_by g.B.RuleBook.calls l.initial.books
      + pages_judgings g.B.RuleBook.book (span_works (record { number = l.number; earlier = l.earlier; pages = l.more }));
  some : 0 < length l.books;
}
