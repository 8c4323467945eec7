use Rattle.std.proofs.Common.{◌≡◌, ◌≤◌, length, ◌∙◌, sym, ap, arith}
use Rattle.std.proofs.lemmas.Result.{IfOk-weaker}
use Rattle.snap_tree.specs.Trees.{Trees, rows_of}
use Rattle.rule_core.specs.Local.{AreVersions}
use Rattle.reaudit.specs.Relisted.{relisted_rows, relisted_cost}
use Rattle.reaudit.proofs.ListChanges.{rows_relisted, cost_relisted, cost_within, own_within}
use Rattle.reaudit.proofs.relisted.rows_again.Goals as goal

pub returns-clause-rows : goal.returns-clause-rows
returns-clause-rows g c =
    λ earlier js h has.
    let book = g.B.RuleBook.book in
    let info = c.args.info.now in
    let old = c.args.old.now in
    let new = c.args.new.now in
    let versions : AreVersions old new = record { old_well = c.well.ensures; new_well = c.well-2.ensures; address = c.requires.address } in
    let nodes = ap length c.rows.ensures.rows ∙ ap (λ (t : Trees). length (rows_of t)) (sym c.requires.relisted.trees) in
    let whole = c.first_rows-own.ensures.whole (omega (arith, own_within book old earlier info.no c.args.rows.now h, nodes)) in
    IfOk-weaker c.rows_relisted.result _ _ (λ rows is.
    is ∙ ap (relisted_rows book info new js) whole
    ∙ rows_relisted book info (g.met.B.RuleBook.local info c.requires.known) old new versions c.requires.relisted c.requires.applies earlier js c.args.rows.now h)
    (c.rows_relisted.ensures.rows js has)

pub returns-clause-counted : goal.returns-clause-counted
returns-clause-counted g c =
    λ earlier h.
    let book = g.B.RuleBook.book in
    let info = c.args.info.now in
    let old = c.args.old.now in
    let new = c.args.new.now in
    let nodes = ap length c.rows.ensures.rows ∙ ap (λ (t : Trees). length (rows_of t)) (sym c.requires.relisted.trees) in
    let whole = c.first_rows-own.ensures.whole (omega (arith, own_within book old earlier info.no c.args.rows.now h, nodes)) in
    omega (arith, c.rows_relisted.ensures.counted, ap (relisted_cost info) whole, cost_relisted book info old new c.requires.relisted earlier c.args.rows.now h)

pub returns-clause-within : goal.returns-clause-within
returns-clause-within g c =
    let nodes = ap length c.rows.ensures.rows in
    omega (arith, c.rows_relisted.ensures.counted, cost_within c.args.info.now c.first_rows-own.result.now _ c.first_rows-own.ensures.few, nodes)
