use Rattle.std.proofs.Common.{◌≡◌, map, ◌∙◌, sym, ap, arith}
use Rattle.std.proofs.lemmas.Result.{IfOk-weaker}
use Rattle.std.specs.List.{filter_map}
use Rattle.std.specs.Option.{option_copied}
use Rattle.snap_tree.specs.declared.row.Row.{Row}
use Rattle.snap_tree.specs.Trees.{rows_of}
use Rattle.rule_core.specs.Local.{AreVersions}
use Rattle.rule_core.specs.Reach.{is_affected}
use Rattle.judge_core.specs.Outcomes.{atomic_row}
use Rattle.judged_rows.proofs.Merged.{filter_map_map}
use Rattle.judged_rows.proofs.PartLaws.{on_own}
use Rattle.reaudit.specs.Nodes.{live_by}
use Rattle.reaudit.proofs.Live.{live_known, has_live, live_affected, live_within}
use Rattle.reaudit.proofs.Reaching.{keeps_rows}
use Rattle.reaudit.proofs.again.rows_by_rows.Goals as goal

pub returns-clause-rows : goal.returns-clause-rows
returns-clause-rows g c =
    λ earlier js h has.
    let book = g.B.RuleBook.book in
    let info = c.args.info.now in
    let old = c.args.old.now in
    let new = c.args.new.now in
    let f = atomic_row book old earlier info.no in
    let marks = c.args.nodes.now.marks.items in
    let placed = c.args.nodes.now.placed.items in
    let live = c.as_slice-live.result.now in
    let is : live ≡ live_by marks placed = c.as_slice-live.ensures.value ∙ c.requires.nodes.live in
    let versions : AreVersions old new = record { old_well = c.well.ensures; new_well = c.well-2.ensures; address = c.requires.address } in
    let nodes = ap (map (λ (row : Row). row.id)) (sym c.rows.ensures.rows) in
    let given = h ∙ sym (filter_map_map f (λ (row : Row). row.id) (rows_of old.trees)) ∙ ap (filter_map f) nodes in
    let were = ap (map option_copied) c.as_slice.ensures.value ∙ c.in_ok-before.ensures f (on_own book old earlier info.no) given ∙ ap (map (λ (row : Row). f row.id)) c.rows.ensures.rows in
    let keeps = keeps_rows book old new earlier info.no (map option_copied c.as_slice.result.now) were in
    IfOk-weaker c.placed_rows.result _ _ (λ rows e. e ∙ has_live book info (g.met.B.RuleBook.local info c.requires.known) old new versions earlier js marks placed live c.args.rows.now c.requires.nodes.placed is h c.requires.marked)
    (c.placed_rows.ensures.rows old earlier js c.requires.known versions (live_known old new marks placed live c.requires.nodes.placed is) keeps has)

pub returns-clause-counted : goal.returns-clause-counted
returns-clause-counted g c =
    λ earlier h.
    let book = g.B.RuleBook.book in
    let info = c.args.info.now in
    let old = c.args.old.now in
    let new = c.args.new.now in
    let f = atomic_row book old earlier info.no in
    let marks = c.args.nodes.now.marks.items in
    let placed = c.args.nodes.now.placed.items in
    let live = c.as_slice-live.result.now in
    let is : live ≡ live_by marks placed = c.as_slice-live.ensures.value ∙ c.requires.nodes.live in
    let nodes = ap (map (λ (row : Row). row.id)) (sym c.rows.ensures.rows) in
    let given = h ∙ sym (filter_map_map f (λ (row : Row). row.id) (rows_of old.trees)) ∙ ap (filter_map f) nodes in
    let were = ap (map option_copied) c.as_slice.ensures.value ∙ c.in_ok-before.ensures f (on_own book old earlier info.no) given ∙ ap (map (λ (row : Row). f row.id)) c.rows.ensures.rows in
    let keeps = keeps_rows book old new earlier info.no (map option_copied c.as_slice.result.now) were in
    let some = live_affected old new marks placed live c.requires.nodes.placed is (is_affected info (book.means info.no) old new) in
    omega (arith, c.placed_rows.ensures.counted old earlier (live_known old new marks placed live c.requires.nodes.placed is) keeps, some)

pub returns-clause-within : goal.returns-clause-within
returns-clause-within g c =
    let old = c.args.old.now in
    let new = c.args.new.now in
    let some = live_within old new c.args.nodes.now.marks.items c.args.nodes.now.placed.items c.as_slice-live.result.now c.requires.nodes.placed (c.as_slice-live.ensures.value ∙ c.requires.nodes.live) in
    omega (arith, c.placed_rows.ensures.within, some)
