use Rattle.std.proofs.Common.{[], ◌∷◌, ◌++◌, ◌∙◌, ap, sym, subst, arith}
use Rattle.std.specs.List.{AllByRecursion}
use Rattle.rule_core.specs.Infos.{rise}
use Rattle.judged_rows.specs.Parts.{IsPart}
use Rattle.judged_rows.proofs.PartLaws.{all_more, infos_more}
use Rattle.judged_rows.proofs.Anew.{orderly_rise, next_rule}
use Rattle.reaudit.specs.Costs.{affected_cost, whole_cost}
use Rattle.reaudit.specs.Marks.{AreMarked}
use Rattle.reaudit.proofs.Marking.{marked_take, marked_drop}
use Rattle.reaudit.proofs.Sums.{cost_more, cost_within}
use Rattle.reaudit.proofs.edited.parts_again.Goals as goal

pub part_again-requires-clause-marked : goal.part_again-requires-clause-marked
part_again-requires-clause-marked g c =
    let marks = c.args.nodes.now.marks.items in
    subst (AreMarked marks) (sym c.split_rule.ensures.leading) (marked_take marks _ c.loop-info.left.now c.loop-info.invariant.marked)

pub loop-info-preserved : goal.loop-info-preserved
loop-info-preserved g c =
    let at = c.loop-info in
    let book = g.B.RuleBook.book in
    let old = c.args.old.now in
    let new = c.args.new.now in
    let infos = c.args.infos.now in
    let rising = ap rise c.requires.infos ∙ orderly_rise book.infos g.met.B.RuleBook.orderly in
    record {
      infos = infos_more infos at.info-index _ at.parts.items _ c.in_ok-part.part (omega arith) at.invariant.infos c.in_ok-push.ensures.items c.in_ok-part.ensures.info;
      left = λ earlier is. let next = next_rule book old earlier infos at.info-index _ at.left.now rising (omega arith) (at.invariant.left earlier is) in c.split_rule.ensures.later ∙ next.1;
      marked = let marks = c.args.nodes.now.marks.items in subst (AreMarked marks) (sym c.split_rule.ensures.later) (marked_drop marks _ at.left.now at.invariant.marked);
      parts = λ earlier js is has. let next = next_rule book old earlier infos at.info-index _ at.left.now rising (omega arith) (at.invariant.left earlier is) in subst (AllByRecursion (IsPart book new js)) {x = at.parts.items ++ c.in_ok-part.part ∷ []} (sym c.in_ok-push.ensures.items)
          (all_more (IsPart book new js) at.parts.items _ (at.invariant.parts earlier js is has) (c.in_ok-part.ensures.part earlier js (c.split_rule.ensures.leading ∙ next.0) has));
      counted = λ earlier is. let next = next_rule book old earlier infos at.info-index _ at.left.now rising (omega arith) (at.invariant.left earlier is) in cost_more (affected_cost book old new) infos at.info-index _ _ _ _ (omega arith) (at.invariant.counted earlier is) (c.part_again.ensures.counted earlier (c.split_rule.ensures.leading ∙ next.0));
      within = cost_more (whole_cost new) infos at.info-index _ _ _ _ (omega arith) at.invariant.within c.part_again.ensures.within;
    }

pub returns-in_err-part-clause-counted : goal.returns-in_err-part-clause-counted
returns-in_err-part-clause-counted g c =
    λ earlier is.
    let book = g.B.RuleBook.book in
    let old = c.args.old.now in
    let infos = c.args.infos.now in
    let at = c.loop-info in
    let rising = ap rise c.requires.infos ∙ orderly_rise book.infos g.met.B.RuleBook.orderly in
    let next = next_rule book old earlier infos at.info-index _ at.left.now rising (omega arith) (at.invariant.left earlier is) in
    cost_within (affected_cost book old c.args.new.now) infos at.info-index _ _ _ _ (omega arith) (at.invariant.counted earlier is) (c.part_again.ensures.counted earlier (c.split_rule.ensures.leading ∙ next.0))

pub returns-in_err-part-clause-within : goal.returns-in_err-part-clause-within
returns-in_err-part-clause-within g c = cost_within (whole_cost c.args.new.now) c.args.infos.now c.loop-info.info-index _ _ _ _ (omega arith) c.loop-info.invariant.within c.part_again.ensures.within

pub returns-in_err-push-clause-counted : goal.returns-in_err-push-clause-counted
returns-in_err-push-clause-counted g c =
    λ earlier is.
    let book = g.B.RuleBook.book in
    let old = c.args.old.now in
    let infos = c.args.infos.now in
    let at = c.loop-info in
    let rising = ap rise c.requires.infos ∙ orderly_rise book.infos g.met.B.RuleBook.orderly in
    let next = next_rule book old earlier infos at.info-index _ at.left.now rising (omega arith) (at.invariant.left earlier is) in
    cost_within (affected_cost book old c.args.new.now) infos at.info-index _ _ _ _ (omega arith) (at.invariant.counted earlier is) (c.part_again.ensures.counted earlier (c.split_rule.ensures.leading ∙ next.0))

pub returns-in_err-push-clause-within : goal.returns-in_err-push-clause-within
returns-in_err-push-clause-within g c = cost_within (whole_cost c.args.new.now) c.args.infos.now c.loop-info.info-index _ _ _ _ (omega arith) c.loop-info.invariant.within c.part_again.ensures.within
