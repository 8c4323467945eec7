use Rattle.std.proofs.Common.{◌≡◌, ◌≤◌, ◌+◌, List, IfOk, sum_by, subst, ◌∙◌}
use Rattle.audit.specs.declared.pages.PageWork.{PageWork}
use Rattle.audit.specs.Pages.{pages_outcomes, pages_judgings}
use Rattle.rule_core.specs.Books.{Book}
use Rattle.desk_core.proofs.ImportLaws.{listed_judgings}
use Rattle.desk_core.proofs.import.audit_listed.Goals as goal

pub returns-clause-outcomes : goal.returns-clause-outcomes
returns-clause-outcomes g c =
    let book : Book = g.B.RuleBook.book in
    subst (λ (ws : List PageWork). IfOk c.audit_pages.result (λ all. all.items ≡ pages_outcomes book ws)) (c.as_slice.ensures.value ∙ c.in_ok-listed.ensures) c.audit_pages.ensures.outcomes

pub returns-clause-counted : goal.returns-clause-counted
returns-clause-counted g c =
    let book : Book = g.B.RuleBook.book in
    subst (λ n. sum_by g.B.RuleBook.calls c.audit_pages.new.books ≤ sum_by g.B.RuleBook.calls c.args.books.now + n) (listed_judgings book c.args.languages.now c.args.works.now)
    (subst (λ (ws : List PageWork). sum_by g.B.RuleBook.calls c.audit_pages.new.books ≤ sum_by g.B.RuleBook.calls c.args.books.now + pages_judgings book ws) (c.as_slice.ensures.value ∙ c.in_ok-listed.ensures) c.audit_pages.ensures.counted)
