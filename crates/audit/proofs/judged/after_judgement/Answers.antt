use Rattle.std.proofs.Common.{◌∙◌, ap}
use Rattle.rule_core.specs.Infos.{rise}
use Rattle.rule_core.specs.Books.{Book}
use Rattle.judged_rows.proofs.Anew.{orderly_rise}
use Rattle.audit.proofs.judged.after_judgement.Goals as goal

pub returns : goal.returns
returns g c =
    λ page before from.
    let book : Book = g.B.RuleBook.book in
    let same = c.as_slice.ensures.value ∙ c.in_ok-infos.ensures in
    let rising = ap rise same ∙ orderly_rise g.B.RuleBook.book.infos g.met.B.RuleBook.orderly in
    c.from_vec.ensures
    ∙ c.in_ok-rows.ensures book page c.args.js.now g.met.B.RuleBook.strange (record {
      whole = c.in_ok-parts.ensures.infos ∙ same;
      each = c.in_ok-parts.ensures.parts book page before c.args.js.now rising same (c.as_slice-2.ensures ∙ from) c.in_ok-by_node.ensures;
    })
