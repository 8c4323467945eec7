use Rattle.std.proofs.Common.{sym, ◌∙◌, arith}
use Rattle.json_parts.proofs.Plain.{plain_more}
use Rattle.json_parts.proofs.members.plain_front.Goals as goal

pub loop-place-preserved : goal.loop-place-preserved
loop-place-preserved c =
    let within = c.loop-place-test.true in (
      omega (arith, within),
      plain_more c.args.text.now c.loop-place.place within (sym c.is_plain.ensures ∙ c.if-is_plain.true) c.loop-place.invariant.1,
    )
