use Rattle.std.proofs.Common.{◌≡◌, [], ◌∷◌, ◌++◌, sym, subst, arith}
use Rattle.std.specs.List.{AllByRecursion}
use Rattle.judged_rows.specs.Parts.{IsPart}
use Rattle.judged_rows.proofs.PartLaws.{all_more, infos_more}
use Rattle.audit.proofs.Judgings.{judged_more, judged_within}
use Rattle.audit.proofs.page.parts_of.Goals as goal

pub returns-in_err-part_of-clause-counted : goal.returns-in_err-part_of-clause-counted
returns-in_err-part_of-clause-counted g c =
    judged_within c.args.infos.now g.B.RuleBook.book.means c.args.tree.now c.loop-info.info-index _ _ _ _ (omega arith) c.loop-info.invariant.2 c.part_of.ensures.counted

pub returns-in_err-push-clause-counted : goal.returns-in_err-push-clause-counted
returns-in_err-push-clause-counted g c =
    judged_within c.args.infos.now g.B.RuleBook.book.means c.args.tree.now c.loop-info.info-index _ _ _ _ (omega arith) c.loop-info.invariant.2 c.part_of.ensures.counted

pub loop-info-preserved : goal.loop-info-preserved
loop-info-preserved g c =
    let at = c.loop-info in (
      infos_more c.args.infos.now at.info-index _ at.parts.items _ c.in_ok-part_of.field-0 (omega arith) at.invariant.0 c.in_ok-push.ensures.items c.in_ok-part_of.ensures.info,
      λ js has.
          let P = IsPart g.B.RuleBook.book c.args.tree.now js in
          let grown : c.push.new.self.items ≡ at.parts.items ++ c.in_ok-part_of.field-0 ∷ [] = c.in_ok-push.ensures.items in
          subst (AllByRecursion P) (sym grown) (all_more P at.parts.items _ (at.invariant.1 js has) (c.in_ok-part_of.ensures.part js has)),
      judged_more c.args.infos.now g.B.RuleBook.book.means c.args.tree.now at.info-index _ _ _ _ (omega arith) at.invariant.2 c.part_of.ensures.counted,
    )
