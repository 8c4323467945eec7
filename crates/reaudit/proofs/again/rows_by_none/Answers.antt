use Rattle.std.proofs.Common.{◌≡◌, length, filter, not, ◌∙◌, sym, ap, subst, arith}
use Rattle.std.proofs.lemmas.Result.{IfOk-weaker}
use Rattle.std.proofs.lemmas.List.{length-map}
use Rattle.std.specs.List.{filter_map}
use Rattle.snap_tree.specs.declared.row.Row.{Row}
use Rattle.snap_tree.specs.Trees.{rows_of}
use Rattle.rule_core.specs.Reach.{is_affected}
use Rattle.rule_core.specs.Local.{AreVersions}
use Rattle.judge_core.specs.Outcomes.{atomic_row}
use Rattle.reaudit.specs.declared.known.Placed.{Placed}
use Rattle.reaudit.specs.Known.{placed_of}
use Rattle.reaudit.specs.Nodes.{is_settled, reached_by, AreKnown}
use Rattle.reaudit.proofs.Placing.{affected_in, rows_are}
use Rattle.reaudit.proofs.Reaching.{placed_known, reached_known, keeps_none, settled_none, rows_reached, fewer, at_most}
use Rattle.reaudit.proofs.again.rows_by_none.Goals as goal

pub returns-clause-rows : goal.returns-clause-rows
returns-clause-rows g c =
    λ earlier js h has.
    let book = g.B.RuleBook.book in
    let info = c.args.info.now in
    let old = c.args.old.now in
    let new = c.args.new.now in
    let placed = c.args.nodes.now.placed.items in
    let list : c.as_slice-reached.result.now ≡ reached_by placed = c.as_slice-reached.ensures.value ∙ c.requires.nodes.reached in
    let known = placed_known old new placed c.requires.nodes.placed in
    let each = subst (AreKnown old new) (sym list) (reached_known old new placed known) in
    let keeps = keeps_none book old new earlier info.no h in
    let versions : AreVersions old new = record { old_well = c.well.ensures; new_well = c.well-2.ensures; address = c.requires.address } in
    IfOk-weaker c.placed_rows.result _ _ (λ rows e.
    e ∙ ap (filter_map (λ (p : Placed). atomic_row book new js info.no p.node)) list
    ∙ rows_reached (atomic_row book new js info.no) old new placed known (settled_none book info (g.met.B.RuleBook.local info c.requires.known) old new versions earlier js h)
    ∙ rows_are old new placed c.requires.nodes.placed (atomic_row book new js info.no))
    (c.placed_rows.ensures.rows old earlier js c.requires.known versions each keeps has)

pub returns-clause-counted : goal.returns-clause-counted
returns-clause-counted g c =
    λ earlier h.
    let book = g.B.RuleBook.book in
    let info = c.args.info.now in
    let old = c.args.old.now in
    let new = c.args.new.now in
    let placed = c.args.nodes.now.placed.items in
    let list : c.as_slice-reached.result.now ≡ reached_by placed = c.as_slice-reached.ensures.value ∙ c.requires.nodes.reached in
    let known = placed_known old new placed c.requires.nodes.placed in
    let each = subst (AreKnown old new) (sym list) (reached_known old new placed known) in
    let keeps = keeps_none book old new earlier info.no h in
    let test = is_affected info (book.means info.no) old new in
    let some = ap (λ xs. length (filter (λ (p : Placed). test p.node) xs)) list in
    let all = affected_in old new placed c.requires.nodes.placed test in
    omega (arith, c.placed_rows.ensures.counted old earlier each keeps, some, fewer (λ (p : Placed). test p.node) (λ p. not (is_settled p.langs p.known)) placed, all)

pub returns-clause-within : goal.returns-clause-within
returns-clause-within g c =
    let old = c.args.old.now in
    let new = c.args.new.now in
    let placed = c.args.nodes.now.placed.items in
    let list = ap length (c.as_slice-reached.ensures.value ∙ c.requires.nodes.reached) in
    let all = ap length c.requires.nodes.placed ∙ length-map (rows_of new.trees) (λ (row : Row). placed_of old new row.id) in
    omega (arith, c.placed_rows.ensures.within, list, at_most (λ p. not (is_settled p.langs p.known)) placed, all)
