use Rattle.std.proofs.Common.{rules, ◌≡◌, ◌∙◌, None, ap}
use Rattle.snap_tree.specs.declared.row.NodeId.{NodeId}
use Rattle.snap_tree.specs.declared.row.Row.{Row}
use Rattle.snap_tree.specs.Trees.{rows_of}
use Rattle.rule_core.specs.Books.{said}
use Rattle.rule_core.specs.Pages.{on_node}
use Rattle.rule_book.specs.Book.{thirty}
use Rattle.rule_book.proofs.Nothing.{nothing}
use Rattle.rule_book.proofs.table.said_of_page.Goals as goal

pub returns-in_default : goal.returns-in_default
returns-in_default c =
    let unsaid : (n : NodeId) → None ≡ said thirty c.args.rule c.args.tree.now n = λ n. search rules in
    c.new.ensures.items ∙ nothing (λ (row : Row). on_node row.id (said thirty c.args.rule c.args.tree.now row.id)) (λ row. ap (on_node row.id) (unsaid row.id)) (rows_of c.args.tree.now.trees)
