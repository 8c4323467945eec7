use Rattle.std.proofs.Common.{sym, ◌∙◌}
use Rattle.std.proofs.lemmas.Bool.{ne_eqb}
use Rattle.snap_edit.proofs.TakenAlone.{child_below, stray_below}
use Rattle.snap_edit.proofs.alone.fault_below.Goals as goal

pub returns-then-names : goal.returns-then-names
returns-then-names c =
    let other = ne_eqb c.in_ok-row.row.now.id.0 c.args.root.now.id.0 c.if-node-root.false in
    let named = sym c.names.ensures ∙ c.if-names.true in
    let fault = child_below c.args.root.now c.in_ok-row.row.now c.in_ok-row.field-0-1.now c.requires named other in
    rw c.in_ok-row.ensures.cases.0 (sym fault)

pub returns : goal.returns
returns c =
    let other = ne_eqb c.in_ok-row.row.now.id.0 c.args.root.now.id.0 c.if-node-root.false in
    let named = sym c.names.ensures ∙ c.if-names.false in
    let fault = stray_below c.args.root.now c.in_ok-row.row.now c.in_ok-row.field-0-1.now named other in
    rw c.in_ok-row.ensures.cases.0 (sym fault)
