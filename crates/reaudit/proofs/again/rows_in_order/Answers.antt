use Rattle.std.proofs.Common.{◌≡◌, sym, ◌∙◌, arith}
use Rattle.std.proofs.lemmas.Result.{IfOk-weaker}
use Rattle.rule_core.specs.Local.{AreVersions}
use Rattle.rule_core.specs.Reach.{is_affected}
use Rattle.reaudit.specs.Nodes.{live_by}
use Rattle.reaudit.proofs.Live.{live_known, had_live, has_live, live_affected, live_within}
use Rattle.reaudit.proofs.again.rows_in_order.Goals as goal

pub returns-clause-rows : goal.returns-clause-rows
returns-clause-rows g c =
    λ earlier js h has.
    let book = g.B.RuleBook.book in
    let info = c.args.info.now in
    let old = c.args.old.now in
    let new = c.args.new.now in
    let marks = c.args.nodes.now.marks.items in
    let placed = c.args.nodes.now.placed.items in
    let live = c.as_slice-live.result.now in
    let is : live ≡ live_by marks placed = c.as_slice-live.ensures.value ∙ c.requires.nodes.live in
    let versions : AreVersions old new = record { old_well = c.well.ensures; new_well = c.well-2.ensures; address = c.requires.address } in
    let had = had_live book info.no old new earlier marks placed live c.args.rows.now c.requires.nodes.placed (sym c.requires.nodes.in_order ∙ c.requires.order) is h c.requires.marked in
    IfOk-weaker c.rows_along.result _ _ (λ rows e. e ∙ has_live book info (g.met.B.RuleBook.local info c.requires.known) old new versions earlier js marks placed live c.args.rows.now c.requires.nodes.placed is h c.requires.marked)
    (c.rows_along.ensures.rows old earlier js c.requires.known versions (live_known old new marks placed live c.requires.nodes.placed is) had has)

pub returns-clause-counted : goal.returns-clause-counted
returns-clause-counted g c =
    λ earlier h.
    let book = g.B.RuleBook.book in
    let info = c.args.info.now in
    let old = c.args.old.now in
    let new = c.args.new.now in
    let marks = c.args.nodes.now.marks.items in
    let placed = c.args.nodes.now.placed.items in
    let live = c.as_slice-live.result.now in
    let is : live ≡ live_by marks placed = c.as_slice-live.ensures.value ∙ c.requires.nodes.live in
    let had = had_live book info.no old new earlier marks placed live c.args.rows.now c.requires.nodes.placed (sym c.requires.nodes.in_order ∙ c.requires.order) is h c.requires.marked in
    let some = live_affected old new marks placed live c.requires.nodes.placed is (is_affected info (book.means info.no) old new) in
    omega (arith, c.rows_along.ensures.counted old earlier (live_known old new marks placed live c.requires.nodes.placed is) had, some)

pub returns-clause-within : goal.returns-clause-within
returns-clause-within g c =
    let old = c.args.old.now in
    let new = c.args.new.now in
    let some = live_within old new c.args.nodes.now.marks.items c.args.nodes.now.placed.items c.as_slice-live.result.now c.requires.nodes.placed (c.as_slice-live.ensures.value ∙ c.requires.nodes.live) in
    omega (arith, c.rows_along.ensures.within, some)
