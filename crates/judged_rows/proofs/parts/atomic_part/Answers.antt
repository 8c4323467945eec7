use Rattle.std.proofs.Common.{◌≡◌, true, false, sym, ◌∙◌}
use Rattle.judged_rows.proofs.parts.atomic_part.Goals as goal

pub returns-clause-part : goal.returns-clause-part
returns-clause-part c =
    λ book page js yes own. record {
      atomic = λ yes. own;
      composite = λ no. let clash : true ≡ false = sym yes ∙ no in cc;
    }
