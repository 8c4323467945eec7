use Rattle.std.proofs.Common.{◌≡◌, ◌+◌, ◌≤◌, take}
use Rattle.audit.specs.Pages.{pages_outcomes, pages_judgings}
use Rattle.audit.proofs.pages.audit_in_turn.Given as goal

abbrev pub invariant-loop-page : goal.invariant-loop-page
invariant-loop-page g l =
    (l.all.items ≡ pages_outcomes g.B.RuleBook.book (take l.page-index l.pages))
    × (g.B.RuleBook.calls l.book ≤ g.B.RuleBook.calls l.initial.book + pages_judgings g.B.RuleBook.book (take l.page-index l.pages))
