use Rattle.std.proofs.Common.{[], ◌∷◌, ◌++◌, ◌∙◌, sym, subst, arith}
use Rattle.std.specs.List.{AllByRecursion}
use Rattle.judged_rows.specs.Parts.{IsPart}
use Rattle.judged_rows.proofs.PartLaws.{all_more, infos_more}
use Rattle.judged_rows.proofs.Anew.{next_rule}
use Rattle.audit.proofs.judged.parts_again.Goals as goal

pub loop-info-preserved : goal.loop-info-preserved
loop-info-preserved c =
    let at = c.loop-info in (
      infos_more c.args.infos.now at.info-index _ at.parts.items _ c.in_ok-part_again.field-0 (omega arith) at.invariant.0 c.in_ok-push.ensures.items c.in_ok-part_again.ensures.info,
      λ book page before js rising same from has.
          let so_far = at.invariant.1 book page before js rising same from has in
          let next = next_rule book page before c.args.infos.now at.info-index _ at.left.now rising (omega arith) so_far.0 in (
            c.split_rule.ensures.later ∙ next.1,
            subst (AllByRecursion (IsPart book page js)) {x = at.parts.items ++ c.in_ok-part_again.field-0 ∷ []} (sym c.in_ok-push.ensures.items)
                (all_more (IsPart book page js) at.parts.items _ so_far.1 (c.in_ok-part_again.ensures.part book page before js (c.split_rule.ensures.leading ∙ next.0) has)),
          ),
    )

pub returns-clause-parts : goal.returns-clause-parts
returns-clause-parts c = λ book page before js rising same from has. (c.loop-info.invariant.1 book page before js rising same from has).1
