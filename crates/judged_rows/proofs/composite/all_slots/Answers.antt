use Rattle.std.proofs.Common.{◌≡◌, arith, ◌∙◌, ap, sym, subst, take, map, length, ◌<◌}
use Rattle.std.specs.List.{filter_map, AllByRecursion}
use Rattle.judge_core.specs.Outcomes.{rules_among}
use Rattle.judged_rows.specs.Parts.{rows_found}
use Rattle.judged_rows.specs.Merging.{slot_of}
use Rattle.judged_rows.specs.declared.composite.Slot.{Slot}
use Rattle.std.proofs.lemmas.List.{take_all}
use Rattle.judged_rows.proofs.Merged.{number_more, all_among, nodes_of_slots}
use Rattle.judged_rows.proofs.composite.all_slots.Goals as goal

pub loop-number-init : goal.loop-number-init
loop-number-init c = λ f on all. c.in_ok-slots.ensures

pub loop-number-preserved : goal.loop-number-preserved
loop-number-preserved c =
    λ f on all.
    let numbers = c.as_slice-number-items.result.now in
    let so_far = c.loop-number.invariant f on all in
    let i = c.loop-number.number-index in
    let within : i < length numbers = omega arith in
    let nodes = ap (map (λ (s : Slot). s.node)) so_far ∙ nodes_of_slots f (rules_among (take i numbers)) c.args.nodes.now in
    number_more f numbers c.args.nodes.now i 0 c.loop-number.slots.items c.in_ok-slots-2.slots.items within so_far
    (c.in_ok-slots-2.ensures (f _) (on _) (λ some. all_among (λ input. rows_found c.args.parts.now input.0 ≡ filter_map (f input) c.args.nodes.now) numbers i 0 (subst (λ l. AllByRecursion (λ input. rows_found c.args.parts.now input.0 ≡ filter_map (f input) c.args.nodes.now) (rules_among l)) (sym c.as_slice-number-items.ensures) all) within some ∙ ap (filter_map (f _)) (sym nodes)))

pub returns : goal.returns
returns c =
    λ f on all.
    c.loop-number.invariant f on all
    ∙ ap (λ l. map (slot_of f (rules_among l)) c.args.nodes.now) (take_all c.loop-number.number-index c.as_slice-number-items.result.now (omega arith) ∙ c.as_slice-number-items.ensures)
