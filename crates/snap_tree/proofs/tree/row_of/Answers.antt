use Rattle.std.proofs.Common.{sym, ◌∙◌}
use Rattle.snap_tree.proofs.Found.{row_found, place_none}
use Rattle.snap_tree.proofs.tree.row_of.Goals as goal

pub returns-in-Some : goal.returns-in-Some
returns-in-Some c =
    let place = sym (c.requires c.args.n.0) ∙ sym c.in-Some.ensures in
    row_found c.args.n.0 _ c.args.rows.now c.get.result place c.get.ensures.lookup.0 c.get.ensures.lookup.1

pub returns-in-None : goal.returns-in-None
returns-in-None c = sym (place_none 0 c.args.n.0 c.args.rows.now (sym (c.requires c.args.n.0) ∙ sym c.in-None.ensures))
