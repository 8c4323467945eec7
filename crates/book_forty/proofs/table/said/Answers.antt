use Rattle.std.proofs.Common.{rules, ◌≡◌, false, ℕ, IfOk, sym, subst}
use Rattle.rule_core.specs.Books.{infos_of, said}
use Rattle.rule_core.specs.Infos.{has_atomic}
use Rattle.rule_core.specs.Reach.{Says}
use Rattle.rule_book.specs.Book.{thirty}
use Rattle.book_forty.specs.Book.{further, forty}
use Rattle.book_forty.proofs.Behind.{said_before}
use Rattle.book_forty.proofs.table.said.Goals as goal

pub returns-in-40 : goal.returns-in-40
returns-in-40 c =
    subst (λ (no : ℕ). IfOk c.judge-in-40.result (λ verdict. verdict ≡ said forty (record { 0 = no }) c.args.tree.now c.args.n)) (sym c.in-40.is) c.judge-in-40.ensures

pub returns-in_default : goal.returns-in_default
returns-in_default c =
    let strange : has_atomic (infos_of further) c.args.rule.0 ≡ false = search rules in
    subst (λ (says : Says). IfOk c.said.result (λ verdict. verdict ≡ says c.args.tree.now c.args.n)) (said_before thirty further c.args.rule strange) c.said.ensures
