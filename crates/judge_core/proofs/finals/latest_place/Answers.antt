use Rattle.std.proofs.Common.{◌≡◌, ◌<◌, true, false, length, slice_get, Option, IfSome, ℕ, sym, ap, ◌∙◌, subst, arith}
use Rattle.std.specs.Option.{option_and_then}
use Rattle.std.proofs.lemmas.List.{take_all}
use Rattle.judge_core.specs.Judgements.{is_of, last_place, latest}
use Rattle.judge_core.proofs.Judging.{at_last_place, last_place_within, last_place_step}
use Rattle.judge_core.proofs.finals.latest_place.Goals.{then-is_of, else-is_of}
use Rattle.judge_core.proofs.finals.latest_place.Goals as goal

pub loop-place-preserved : goal.loop-place-preserved
loop-place-preserved c =
    let p = is_of c.args.rule c.args.n c.args.evidence.now in
    let js = c.args.js.now in
    let at = c.loop-place in
    let tested = c.is_of.ensures ∙ ap p c.index-js-place.is in elim c.if-is_of.branch [
      | then-is_of w ↦ last_place_step p js at.place c.index-js-place.result _ _ true (omega arith) at.invariant (sym w.if-is_of.true ∙ tested) w.latest-is
      | else-is_of w ↦ last_place_step p js at.place c.index-js-place.result _ _ false (omega arith) at.invariant (sym w.if-is_of.false ∙ tested) w.latest-is
    ]

-- the whole list was gone through
whole : (c : goal.After-loop-place) → last_place (is_of c.args.rule c.args.n c.args.evidence.now) c.args.js.now ≡ c.loop-place.latest
whole c = sym (c.loop-place.invariant ∙ ap (last_place (is_of c.args.rule c.args.n c.args.evidence.now)) (take_all c.loop-place.place c.args.js.now (omega arith)))

pub returns-clause-within : goal.returns-clause-within
returns-clause-within c =
    let P : Option ℕ → Type 0 = λ o. IfSome o (λ place. place < length c.args.js.now) in
    subst P (whole c) (last_place_within (is_of c.args.rule c.args.n c.args.evidence.now) c.args.js.now)

pub returns-clause-judgement : goal.returns-clause-judgement
returns-clause-judgement c =
    let P : Option ℕ → Type 0 = λ o. option_and_then (slice_get c.args.js.now) o ≡ latest c.args.rule c.args.n c.args.evidence.now c.args.js.now in
    subst P (whole c) (at_last_place c.args.rule c.args.n c.args.evidence.now c.args.js.now)
