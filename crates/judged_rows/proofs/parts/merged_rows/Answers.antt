use Rattle.std.proofs.Common.{◌≡◌, [], cond, sym, ap, subst, ◌∙◌}
use Rattle.std.specs.List.{filter_map, AllByRecursion}
use Rattle.judge_core.specs.Outcomes.{atomic_row, composite_row, composite_rows, inputs_of}
use Rattle.judged_rows.specs.Parts.{rows_found}
use Rattle.judged_rows.proofs.PartLaws.{on_own, inputs_found}
use Rattle.judged_rows.proofs.parts.merged_rows.Goals as goal

pub returns : goal.returns
returns c =
    λ book page js says are is.
    let part = c.args.part.now in
    let no = sym c.is_atomic.ensures ∙ c.if-is_atomic.false in
    let suffice = (is.composite no).1 in
    let inputs = inputs_found book page js c.args.parts.now part says are suffice in
    let given = subst (λ nodes. AllByRecursion (λ input. rows_found c.args.parts.now input.0 ≡ filter_map (atomic_row book page js input) nodes) (inputs_of part.info)) (sym c.as_slice.ensures) inputs in
    c.from_vec-2.ensures ∙ c.in_ok-rows.ensures (atomic_row book page js) (on_own book page js) given ∙ ap (filter_map (composite_row book page js part.info)) c.as_slice.ensures
    ∙ suffice.rows ∙ sym (ap (λ b. cond b [] (composite_rows book page js part.info)) no)
