use Rattle.std.proofs.Common.{Option, ap, subst, sym, ◌∙◌, arith}
use Rattle.std.specs.Option.{option_map_or}
use Rattle.snap_tree.specs.declared.fault.TreeFault.{TreeFault}
use Rattle.snap_tree.specs.Trees.{Document, with_langs}
use Rattle.snap_tree.specs.Grown.{page_of}
use Rattle.rule_core.specs.Books.{Book}
use Rattle.judge_core.specs.Outcomes.{judgings}
use Rattle.desk_core.specs.Pages.{renewed}
use Rattle.desk_core.specs.Serving.{Agrees}
use Rattle.desk_core.proofs.Onward.{agrees_as, agrees_so}
use Rattle.desk_core.proofs.PutLaws.{put_is, put_refused, listed_next}
use Rattle.desk_core.proofs.put_page.put_there.Goals as goal

pub returns-clause-decided : goal.returns-clause-decided
returns-clause-decided g c =
    let book : Book = g.B.RuleBook.book in
    let at = c.args.survey.now in
    let sent = c.args.sent in
    agrees_as c.renewed.result _ _
    (put_is book sent.site c.args.caller.now sent.page sent.rev c.args.raw at.site at.current at.judgements at.pages c.requires.room c.requires.revision c.requires.current c.in_ok-built.built c.in_ok-built.ensures.tree.0 c.in_ok-built.ensures.tree.1)
    (subst (λ js. Agrees ⊥ c.renewed.result (renewed book sent.site c.args.caller.now sent.page at.site.counter js (with_langs c.in_ok-built.built at.site.languages))) c.as_slice-js.ensures
    (subst (λ tree. Agrees ⊥ c.renewed.result (renewed book sent.site c.args.caller.now sent.page at.site.counter c.as_slice-js.result.now tree)) c.in_ok-tree.ensures c.renewed.ensures.decided))

pub returns-clause-costs : goal.returns-clause-costs
returns-clause-costs g c =
    let book : Book = g.B.RuleBook.book in
    let raw = c.args.raw in
    let same = ap (judgings book) c.in_ok-tree.ensures ∙ ap (judgings book) c.in_ok-built.ensures.tree.0 in
    let whole = ap (λ (fault : Option TreeFault). option_map_or (λ _. 0) fault (judgings book (page_of raw))) c.in_ok-built.ensures.tree.1 in
    record { counted = omega (arith, c.renewed.ensures.costs.counted, same, whole); others = c.renewed.ensures.costs.others }

pub returns-in_err-built-clause-decided : goal.returns-in_err-built-clause-decided
returns-in_err-built-clause-decided g c =
    let book : Book = g.B.RuleBook.book in
    let at = c.args.survey.now in
    let sent = c.args.sent in
    agrees_so ⊥ c.from_residual.result _ c.in_err-built.field-0.0 c.from_residual.ensures.1
    (put_refused book sent.site c.args.caller.now sent.page sent.rev c.args.raw at.site at.current at.judgements at.pages c.requires.room c.requires.revision c.requires.current c.in_err-built.field-0.0
    (c.in_err-built.ensures.refused (listed_next book sent.site c.args.caller.now sent.page sent.rev c.args.raw at.site at.current at.judgements at.pages c.requires.room c.requires.revision c.requires.current)))
