use Rattle.std.proofs.Common.{◌≡◌, true, false, cond, map, sym, ap, ◌∙◌}
use Rattle.judge_core.specs.declared.outcomes.OutRow.{OutRow}
use Rattle.judge_core.specs.Outcomes.{atomic_rows, composite_rows}
use Rattle.judged_rows.specs.Again.{again}
use Rattle.judged_rows.proofs.Anew.{atomic_again}
use Rattle.audit.proofs.AgainLaws.{still_suffice}
use Rattle.audit.proofs.judged.part_again.Goals as goal

pub returns-in_ok-rows-clause-part : goal.returns-in_ok-rows-clause-part
returns-in_ok-rows-clause-part c =
    λ book page before js is has.
    let info = c.args.info.now in
    let kind = sym c.is_atomic.ensures ∙ c.if-is_atomic.true in
    let own = is ∙ ap (λ b. cond b (atomic_rows book page before info.no) (composite_rows book page before info)) kind in
    c.atomic_part.ensures.part book page js kind (c.from_vec.ensures ∙ c.in_ok-rows.ensures js has ∙ ap (map (again js)) own ∙ atomic_again book page before js info.no)

pub returns-in_ok-nodes_of-clause-part : goal.returns-in_ok-nodes_of-clause-part
returns-in_ok-nodes_of-clause-part c =
    λ book page before js is has.
    let info = c.args.info.now in
    let kind = sym c.is_atomic.ensures ∙ c.if-is_atomic.false in
    let own = is ∙ ap (λ b. cond b (atomic_rows book page before info.no) (composite_rows book page before info)) kind in
    record {
      atomic = λ yes. let clash : true ≡ false = sym yes ∙ kind in cc;
      composite = λ no. (
        c.from_vec-else-is_atomic.ensures ∙ c.new.ensures.items,
        still_suffice book page before js _ (c.from_vec-else-is_atomic-2.ensures ∙ c.in_ok-nodes_of.ensures ∙ ap (map (λ (r : OutRow). r.node)) own),
      );
    }
