use Rattle.std.proofs.Common.{sym, ◌∙◌}
use Rattle.json_parts.proofs.Fronts.{space_more}
use Rattle.json_parts.proofs.front.after_spaces.Goals as goal

pub loop-first-preserved : goal.loop-first-preserved
loop-first-preserved c =
    space_more c.args.text.now c.loop-first.rest.now c.in-Some.later.now c.in-Some.first.now c.loop-first.invariant c.in-Some.ensures.cases.0 (sym c.is_space.ensures ∙ c.if-not-is_space.false)
