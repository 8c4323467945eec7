use Rattle.std.proofs.Common.{◌∙◌}
use Rattle.audit.proofs.page.audit_page.Goals as goal

pub returns-clause-rows : goal.returns-clause-rows
returns-clause-rows g c =
    c.from_vec.ensures
    ∙ c.in_ok-rows.ensures g.B.RuleBook.book c.args.tree.now c.args.js.now g.met.B.RuleBook.strange (record {
      whole = c.in_ok-parts.ensures.infos ∙ c.as_slice.ensures.value ∙ c.in_ok-infos.ensures;
      each = c.in_ok-parts.ensures.parts c.args.js.now c.in_ok-by_node.ensures;
    })
