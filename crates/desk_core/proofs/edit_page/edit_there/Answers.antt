use Rattle.std.proofs.Common.{◌+◌, ◌≤◌, length, sum_by, sym, subst, ap, ◌∙◌, arith}
use Rattle.snap_tree.specs.Trees.{Document}
use Rattle.rule_core.specs.Books.{Book}
use Rattle.rule_core.specs.Reach.{affected}
use Rattle.judge_core.specs.Outcomes.{judgings}
use Rattle.desk_core.specs.Pages.{renewed, edited}
use Rattle.desk_core.specs.State.{page_state}
use Rattle.desk_core.specs.Costs.{edited_pairs, edited_judgings}
use Rattle.desk_core.specs.Serving.{Edits}
use Rattle.desk_core.proofs.Onward.{agrees_as, agrees_so, refused_so}
use Rattle.desk_core.proofs.EditLaws.{edit_is, edit_refused}
use Rattle.desk_core.proofs.KeptEdits.{edits_refused}
use Rattle.desk_core.proofs.edit_page.edit_there.Goals as goal

pub edited-requires-clause-address : goal.edited-requires-clause-address
edited-requires-clause-address g c = sym (ap (λ (d : Document). d.address) c.in_ok-tree.ensures.kept)

pub returns-clause-decided : goal.returns-clause-decided
returns-clause-decided g c =
    λ holds.
    let book : Book = g.B.RuleBook.book in
    let sent = c.args.sent in
    let site = c.args.site.now in
    agrees_as c.edited.result _ _
    (edit_is book sent.site c.args.caller.now sent.page sent.rev c.args.edits.now site (page_state c.args.kept.now) c.requires.revision c.requires.current c.in_ok-tree.tree c.in_ok-tree.ensures.edited c.in_ok-tree.ensures.kept)
    (c.edited.ensures.decided holds)

pub returns-clause-costs : goal.returns-clause-costs
returns-clause-costs g c =
    let book : Book = g.B.RuleBook.book in
    let page = c.args.kept.now.page.tree in
    let whole = c.in_ok-tree.ensures.kept in
    let done = c.in_ok-tree.ensures.edited in
    let pairs = ap (λ (d : Document). length (affected book page d)) whole ∙ sym (ap (edited_pairs book page) done) in
    let all = ap (λ (d : Document). judgings book d) whole ∙ sym (ap (edited_judgings book page) done) in
    record {
      counted = λ holds. omega (arith, c.edited.ensures.costs.counted holds, pairs);
      at_most = omega (arith, c.edited.ensures.costs.at_most, all);
      others = c.edited.ensures.costs.others;
    }

pub returns-in_err-tree-clause-decided : goal.returns-in_err-tree-clause-decided
returns-in_err-tree-clause-decided g c =
    λ holds.
    let book : Book = g.B.RuleBook.book in
    let sent = c.args.sent in
    let refusal = c.in_err-tree.field-0.0 in
    agrees_so ⊥ c.from_residual.result _ refusal c.from_residual.ensures.1
    (edit_refused book sent.site c.args.caller.now sent.page sent.rev c.args.edits.now c.args.site.now (page_state c.args.kept.now) c.requires.revision c.requires.current refusal
    (c.in_err-tree.ensures.refused (renewed book sent.site c.args.caller.now sent.page c.args.site.now.counter c.args.kept.now.judgements)))

pub returns-in_err-tree-clause-edits : goal.returns-in_err-tree-clause-edits
returns-in_err-tree-clause-edits g c =
    let book : Book = g.B.RuleBook.book in
    let sent = c.args.sent in
    let refusal = c.in_err-tree.field-0.0 in
    refused_so (Edits sent.site sent.page) c.from_residual.result refusal c.from_residual.ensures.1
    (edits_refused sent.site sent.page refusal _ (c.in_err-tree.ensures.refused (renewed book sent.site c.args.caller.now sent.page c.args.site.now.counter c.args.kept.now.judgements)))
