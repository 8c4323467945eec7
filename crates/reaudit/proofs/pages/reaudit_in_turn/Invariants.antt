use Rattle.std.proofs.Common.{◌≡◌, ◌+◌, ◌≤◌, length, take}
use Rattle.reaudit.specs.Pages.{WereFound, new_outcomes, reached_pairs, most_judgings}
use Rattle.reaudit.proofs.pages.reaudit_in_turn.Given as goal

abbrev pub invariant-loop-page : goal.invariant-loop-page
invariant-loop-page g l =
    (WereFound g.B.RuleBook.book l.pages → l.all.items ≡ new_outcomes g.B.RuleBook.book (take l.page-index l.pages))
    × (WereFound g.B.RuleBook.book l.pages → g.B.RuleBook.calls l.book ≤ g.B.RuleBook.calls l.initial.book + reached_pairs g.B.RuleBook.book (take l.page-index l.pages))
    × (length l.all.items ≡ length (take l.page-index l.pages))
    × (g.B.RuleBook.calls l.book ≤ g.B.RuleBook.calls l.initial.book + most_judgings g.B.RuleBook.book (take l.page-index l.pages))
