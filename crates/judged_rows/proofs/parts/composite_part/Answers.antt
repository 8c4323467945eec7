use Rattle.std.proofs.Common.{◌≡◌, true, false, sym, ◌∙◌}
use Rattle.judged_rows.proofs.PartLaws.{all_suffice}
use Rattle.judged_rows.proofs.parts.composite_part.Goals as goal

pub returns-clause-part : goal.returns-clause-part
returns-clause-part c =
    λ book js no. record {
      atomic = λ yes. let clash : true ≡ false = sym yes ∙ no in cc;
      composite = λ no. (c.from_vec.ensures ∙ c.new.ensures.items, all_suffice _ _ js _ (c.from_vec-2.ensures ∙ c.in_ok-nodes.ensures));
    }
