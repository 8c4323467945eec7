use Rattle.std.proofs.Common.{◌≡◌, IfOk, sym, ◌∙◌, subst}
use Rattle.acc_tree.specs.Seen.{seen_row, seen}
use Rattle.acc_name.specs.declared.named.Name.{Name}
use Rattle.acc_name.proofs.Alone.{own_alone}
use Rattle.acc_name.proofs.naming.own_text.Goals as goal

pub returns-else-asks_below : goal.returns-else-asks_below
returns-else-asks_below c =
    let quiet = sym c.asks_below.ensures ∙ c.if-asks_below.false in
    let same = own_alone (seen c.args.tree.now.trees) c.args.n (seen_row c.in-Some.row.now) c.role-role.result c.in-Some.ensures c.role-role.ensures quiet in
    subst (λ (own : Name). IfOk c.alone.result (λ name. name ≡ own)) same c.alone.ensures
