use Rattle.std.proofs.Common.{◌+◌, ◌≤◌, sum_by, sym, subst}
use Rattle.rule_core.specs.Books.{Book}
use Rattle.desk_core.specs.Pages.{edit_page}
use Rattle.desk_core.specs.State.{page_state}
use Rattle.desk_core.specs.Costs.{edit_judgings, edit_pairs}
use Rattle.desk_core.specs.Serving.{Agrees, IsTrueTo}
use Rattle.desk_core.proofs.ReadLaws.{found_is_true}
use Rattle.desk_core.proofs.EditLaws.{costs_at}
use Rattle.desk_core.proofs.Costing.{costs_edit, costs_nothing}
use Rattle.desk_core.proofs.Onward.{decides_so}
use Rattle.desk_core.proofs.KeptEdits.{decides_edit, decides_no_edit}
use Rattle.desk_core.proofs.edit_page.edit_page.Goals as goal

pub returns-clause-decides : goal.returns-clause-decides
returns-clause-decides g c =
    let book : Book = g.B.RuleBook.book in
    let sent = c.args.sent in
    let site = c.in_ok-found.found.0 in
    let kept = c.in_ok-found.found.1 in
    decides_edit book sent.site c.args.caller.now sent.page sent.rev c.args.edits _ _ site kept c.decide.result c.in_ok-found.ensures
    (λ holds. subst (λ edits. Agrees ⊥ c.decide.result (edit_page book sent.site c.args.caller.now sent.page sent.rev edits site (page_state kept))) c.as_slice.ensures (c.decide.ensures.decided holds))
    c.decide.ensures.edits

pub returns-clause-costs : goal.returns-clause-costs
returns-clause-costs g c =
    let book : Book = g.B.RuleBook.book in
    let calls = g.B.RuleBook.calls in
    let sent = c.args.sent in
    let kept = c.in_ok-found.found.1 in
    costs_edit book sent.site sent.page sent.rev c.args.edits _ _ _ _ c.in_ok-found.ensures.reads.stays
    (λ t told sound.
    let found = c.in_ok-found.ensures.found t told in
    let holds = found_is_true book t sound sent.site sent.page kept found.1 found.2 in
    let cost = costs_at sent.site sent.page t c.in_ok-found.found.0 (page_state kept) (edit_pairs book c.args.edits) found.0.kept found.1 in
    subst (λ n. sum_by calls c.decide.new.books ≤ sum_by calls c.args.books.now + n) (sym cost)
    (subst (λ edits. sum_by calls c.decide.new.books ≤ sum_by calls c.args.books.now + edit_pairs book edits (page_state kept)) c.as_slice.ensures (c.decide.ensures.costs.counted holds)))
    (λ t told.
    let found = c.in_ok-found.ensures.found t told in
    let cost = costs_at sent.site sent.page t c.in_ok-found.found.0 (page_state kept) (edit_judgings book c.args.edits) found.0.kept found.1 in
    subst (λ n. sum_by calls c.decide.new.books ≤ sum_by calls c.args.books.now + n) (sym cost)
    (subst (λ edits. sum_by calls c.decide.new.books ≤ sum_by calls c.args.books.now + edit_judgings book edits (page_state kept)) c.as_slice.ensures c.decide.ensures.costs.at_most))

pub returns-in_err-found-clause-costs : goal.returns-in_err-found-clause-costs
returns-in_err-found-clause-costs g c = costs_nothing _ _ _ _ _

pub returns-in_err-found-clause-decides : goal.returns-in_err-found-clause-decides
returns-in_err-found-clause-decides g c =
    let book : Book = g.B.RuleBook.book in
    let sent = c.args.sent in
    decides_so c.in_err-found.field-0.0 c.from_residual.ensures.1
    (decides_no_edit book sent.site c.args.caller.now sent.page sent.rev c.args.edits _ _ c.in_err-found.field-0.0 c.in_err-found.ensures)
