use Rattle.std.proofs.Common.{[], ◌∷◌, length, Ok, sym, ◌∙◌, ap}
use Rattle.std.proofs.lemmas.Result.{IfErr-weaker}
use Rattle.snap_tree.specs.Grown.{grown}
use Rattle.snap_edit.specs.Edits.{effect}
use Rattle.snap_edit.proofs.Settling.{refused_earlier, at_last, refused_at, declined, refused_last, settled_last, ok_both}
use Rattle.snap_edit.proofs.edits.apply_some.Goals as goal

pub returns-in-Err-clause-refused : goal.returns-in-Err-clause-refused
returns-in-Err-clause-refused c =
    let given = grown c.in_ok-rows.rows.items in
    let all = refused_earlier c.in-Err.fault c.args.earlier.now (c.args.last.now ∷ []) given c.in-Err.ensures.refused in
    rw (c.in_ok-rows.ensures, c.rows.ensures.rows, c.rows.ensures.regrown) at all

pub returns-in-Err-carry_out-clause-refused : goal.returns-in-Err-carry_out-clause-refused
returns-in-Err-carry_out-clause-refused c =
    let copied = c.in_ok-rows.ensures ∙ c.rows.ensures.rows in
    let last =
    at_last c.args.earlier.now c.args.last.now c.in-Ok.rows.items copied c.rows.ensures.regrown c.in-Ok.ensures.edited
    in
    let t = grown c.in-Ok.rows.items in
    let f = c.in-Err-carry_out.refusal in
    let refusal = declined f (effect t c.args.last.now) c.in-Err-carry_out.ensures.refused in
    rw (c.fault_at.ensures, last) (refused_at (length c.args.earlier.now) f c.args.last.now [] t refusal)

pub returns-clause-edited : goal.returns-clause-edited
returns-clause-edited c =
    let copied = c.in_ok-rows.ensures ∙ c.rows.ensures.rows in
    let last =
    at_last c.args.earlier.now c.args.last.now c.in-Ok.rows.items copied c.rows.ensures.regrown c.in-Ok.ensures.edited
    in
    let settled =
    settled_last (length c.args.earlier.now) c.in-Ok-carry_out.new.items c.args.last.now (grown c.in-Ok.rows.items)
    in
    ok_both c.rebuilt.result _ _ _ c.rebuilt.ensures.tree c.rebuilt.ensures.sound
    (λ t is sound. last ∙ settled c.in-Ok-carry_out.ensures.made sound ∙ ap (λ d. Ok d.trees) (sym is))

pub returns-clause-refused : goal.returns-clause-refused
returns-clause-refused c =
    let copied = c.in_ok-rows.ensures ∙ c.rows.ensures.rows in
    let last =
    at_last c.args.earlier.now c.args.last.now c.in-Ok.rows.items copied c.rows.ensures.regrown c.in-Ok.ensures.edited
    in
    let new = c.in-Ok-carry_out.new.items in
    let t = grown c.in-Ok.rows.items in
    let made = c.in-Ok-carry_out.ensures.made in
    IfErr-weaker c.rebuilt.result _ _
    (λ f broken. rw last (refused_last (length c.args.earlier.now) f new c.args.last.now t made broken))
    c.rebuilt.ensures.refused
