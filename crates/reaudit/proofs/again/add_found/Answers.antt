use Rattle.std.proofs.Common.{◌++◌, ◌&&◌, not, sym, ◌∙◌, ap, append-nil}
use Rattle.std.specs.Option.{option_to_list}
use Rattle.reaudit.specs.declared.known.Placed.{Placed}
use Rattle.reaudit.specs.Nodes.{is_settled}
use Rattle.reaudit.proofs.Reaching.{quiet_none}
use Rattle.reaudit.proofs.again.add_found.Goals as goal

pub returns-then-is_quiet-clause-row : goal.returns-then-is_quiet-clause-row
returns-then-is_quiet-clause-row g c =
    λ old earlier js contained versions placed had has.
    let book = g.B.RuleBook.book in
    let info = c.args.info.now in
    let quiet = ap (λ b. is_settled c.args.placed.langs c.args.placed.known && not b) (sym c.is_some.ensures) ∙ sym c.is_quiet.ensures ∙ c.if-is_quiet.true in
    let none = quiet_none book info (g.met.B.RuleBook.local info contained) old c.args.new.now versions earlier js c.args.placed.node c.args.placed.langs (ap (λ (p : Placed). p.langs) placed) c.args.placed.known (ap (λ (p : Placed). p.known) placed) c.args.row had quiet in
    sym (append-nil c.args.rows.now.items) ∙ ap (λ o. c.args.rows.now.items ++ option_to_list o) (sym none)
