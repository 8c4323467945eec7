use Rattle.std.proofs.Common.{◌≡◌, true, map, sym, ◌∙◌, ap}
use Rattle.std.proofs.lemmas.Result.{IfOk-weaker}
use Rattle.snap_tree.specs.declared.row.Row.{Row}
use Rattle.snap_tree.specs.Trees.{rows_of}
use Rattle.page_keys.specs.PageKeys.{same_langs}
use Rattle.reaudit.specs.declared.known.Placed.{Placed}
use Rattle.reaudit.specs.Known.{first_known, placed_of, in_order, same_nodes}
use Rattle.reaudit.proofs.InOrder.{placed_in_order}
use Rattle.reaudit.proofs.known.placed_nodes.Goals as goal

pub returns-then-same_nodes : goal.returns-then-same_nodes
returns-then-same_nodes c =
    let flags = c.in_ok-flags.flags.items in
    let langs = c.same_langs-langs.result in
    let langs_is : langs ≡ same_langs c.args.old.now.langs c.args.new.now.langs = c.same_langs-langs.ensures ∙ (λ i. same_langs (c.langs.ensures.langs i) (c.langs-2.ensures.langs i)) in
    let same : same_nodes (rows_of c.args.old.now.trees) (rows_of c.args.new.now.trees) ≡ true =
    (λ i. same_nodes (sym c.rows.ensures.rows i) (sym c.rows-2.ensures.rows i)) ∙ sym c.same_nodes.ensures ∙ c.if-same_nodes.true in
    IfOk-weaker c.place_in_order.result _ _ (λ placed h.
    placed_in_order c.args.old.now c.args.new.now flags placed.items c.well.ensures c.in_ok-flags.ensures same langs langs_is (h ∙ ap (in_order langs 0) c.as_slice.ensures.value)) c.place_in_order.ensures

pub returns : goal.returns
returns c =
    let list = c.as_slice-2.ensures.value ∙ c.in_ok-flags.ensures in
    let langs_is : c.same_langs-langs.result ≡ same_langs c.args.old.now.langs c.args.new.now.langs = c.same_langs-langs.ensures ∙ (λ i. same_langs (c.langs.ensures.langs i) (c.langs-2.ensures.langs i)) in
    IfOk-weaker c.place_all.result _ _ (λ placed h.
    h ∙ (λ i. map (λ (row : Row). let p : Placed = record { node = row.id; known = (c.in_ok-by_number.ensures row.id.0 ∙ ap (first_known 0 row.id.0) list) i; langs = langs_is i } in p) c.rows-3.result.now)
    ∙ ap (map (λ (row : Row). placed_of c.args.old.now c.args.new.now row.id)) c.rows-3.ensures.rows) c.place_all.ensures
