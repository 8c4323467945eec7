use Rattle.std.proofs.Common.{subst, sym}
use Rattle.reaudit.specs.Before.{HadRow}
use Rattle.reaudit.proofs.again.add_row.Goals as goal

pub returns-clause-row : goal.returns-clause-row
returns-clause-row g c =
    λ old earlier js contained versions placed w has.
    c.add_found.ensures.row old earlier js contained versions placed
    (subst (λ row. HadRow g.B.RuleBook.book c.args.info.now.no c.args.placed row old earlier) (sym c.row_before-row.ensures) (w.each c.args.placed placed)) has

pub returns-clause-counted : goal.returns-clause-counted
returns-clause-counted g c =
    λ old js placed w.
    c.add_found.ensures.counted old js placed
    (subst (λ row. HadRow g.B.RuleBook.book c.args.info.now.no c.args.placed row old js) (sym c.row_before-row.ensures) (w.each c.args.placed placed))
