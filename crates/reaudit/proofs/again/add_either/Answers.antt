use Rattle.std.proofs.Common.{◌≡◌, ◌++◌, true, subst, sym, ◌∙◌, ap, OnOk}
use Rattle.std.specs.Option.{option_to_list}
use Rattle.rule_core.specs.Reach.{is_affected}
use Rattle.reaudit.specs.declared.known.Placed.{Placed}
use Rattle.reaudit.specs.Known.{has_to_judge}
use Rattle.reaudit.proofs.Kept.{judged_here, kept_here}
use Rattle.reaudit.proofs.again.add_either.Goals as goal

pub returns-then-has_to_judge-clause-counted : goal.returns-then-has_to_judge-clause-counted
returns-then-has_to_judge-clause-counted g c =
    λ old js placed had.
    let book = g.B.RuleBook.book in
    let info = c.args.info.now in
    let is : is_affected info (book.means info.no) old c.args.new.now c.args.placed.node ≡ true =
    sym (judged_here book info old c.args.new.now js c.args.placed.node c.args.placed.langs (ap (λ (p : Placed). p.langs) placed) c.args.placed.known (ap (λ (p : Placed). p.known) placed) c.args.row had)
    ∙ ap (has_to_judge info c.args.placed.langs c.args.placed.known) (sym c.is_some.ensures) ∙ sym c.has_to_judge.ensures ∙ c.if-has_to_judge.true in
    rw is c.add_judged.ensures.counted

pub returns-then-has_to_judge-clause-row : goal.returns-then-has_to_judge-clause-row
returns-then-has_to_judge-clause-row g c = λ old earlier js contained versions placed had has. c.add_judged.ensures.row js has

pub returns-else-has_to_judge-clause-row : goal.returns-else-has_to_judge-clause-row
returns-else-has_to_judge-clause-row g c =
    λ old earlier js contained versions placed had has.
    let book = g.B.RuleBook.book in
    let info = c.args.info.now in
    subst (λ o. OnOk c.add_kept.result (c.add_kept.new.rows.items ≡ c.args.rows.now.items ++ option_to_list o))
    (kept_here book info (g.met.B.RuleBook.local info contained) old c.args.new.now versions earlier js c.args.placed.node c.args.placed.langs (ap (λ (p : Placed). p.langs) placed) c.args.placed.known (ap (λ (p : Placed). p.known) placed) c.args.row had
    (ap (has_to_judge info c.args.placed.langs c.args.placed.known) (sym c.is_some.ensures) ∙ sym c.has_to_judge.ensures ∙ c.if-has_to_judge.false))
    (c.add_kept.ensures js has)
