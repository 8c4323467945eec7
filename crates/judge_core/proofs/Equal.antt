-- Values are equal, as `==` says, exactly where they are the same.
use Rattle.std.proofs.Common.{◌≡◌, Bool, ◌&&◌, ap, rules}
use Rattle.std.specs.Bool.{Decides}
use Rattle.std.specs.Cmp.{first_so, second_so, unsigned_Decides}
use Rattle.std.specs.Cmp.Lexicographic.{pointwise_decides, bytes_decides}
use denote.Enum.Bare.{sameb, same_true, true_same}
use Rattle.rule_core.specs.declared.verdict.Auto.{Auto}
use Rattle.rule_core.specs.declared.reason.Reason.{Reason}
use Rattle.rule_core.specs.contracts.verdict.Auto as auto
use Rattle.rule_core.specs.contracts.reason.Reason as reason
use Rattle.judge_core.specs.declared.judgement.Judgement.{Judgement}
use Rattle.judge_core.specs.declared.outcomes.OutRow.{OutRow}
use Rattle.judge_core.specs.declared.outcomes.Outcomes.{Outcomes}
use Rattle.judge_core.specs.Equality.{same_judgement, same_row, same_outcomes}

both : {P Q : Type 0} (a b : Bool) → Decides a P → Decides b Q → Decides (a && b) (P × Q)
both a b p q = (λ e. (p.0 (first_so a b e), q.0 (second_so a b e)), λ h. λ i. (p.1 h.0) i && (q.1 h.1) i)

autos : (a b : Auto) → Decides (sameb auto.the_type a b) (a ≡ b)
autos a b = (same_true auto.the_type (search rules) a b, true_same auto.the_type a b)

reasons : (a b : Reason) → Decides (sameb reason.the_type a b) (a ≡ b)
reasons a b = (same_true reason.the_type (search rules) a b, true_same reason.the_type a b)

pub judgements_decide : (a b : Judgement) → Decides (same_judgement a b) (a ≡ b)
judgements_decide a b =
    let each = both _ _ (unsigned_Decides a.rule.0 b.rule.0) (both _ _ (unsigned_Decides a.node.0 b.node.0)
    (both _ _ (autos a.verdict b.verdict) (both _ _ (bytes_decides a.hand b.hand)
    (both _ _ (bytes_decides a.note b.note) (bytes_decides a.evidence b.evidence))))) in (
      λ e. let h = each.0 e in λ i. record {
        rule = record { 0 = h.0 i };
        node = record { 0 = h.1.0 i };
        verdict = h.1.1.0 i;
        hand = h.1.1.1.0 i;
        note = h.1.1.1.1.0 i;
        evidence = h.1.1.1.1.1 i;
      },
      λ e. each.1 (
        ap (λ j. j.rule.0) e,
        (
          ap (λ j. j.node.0) e,
          (
            ap (λ j. j.verdict) e,
            (ap (λ j. j.hand) e, (ap (λ j. j.note) e, ap (λ j. j.evidence) e)),
          ),
        ),
      ),
    )

pub rows_decide : (a b : OutRow) → Decides (same_row a b) (a ≡ b)
rows_decide a b =
    let each = both _ _ (unsigned_Decides a.rule.0 b.rule.0) (both _ _ (unsigned_Decides a.node.0 b.node.0)
    (both _ _ (autos a.auto b.auto) (both _ _ (reasons a.reason b.reason) (both _ _ (bytes_decides a.evidence b.evidence)
    (both _ _ (autos a.last b.last) (bytes_decides a.hand b.hand)))))) in (
      λ e. let h = each.0 e in λ i. record {
        rule = record { 0 = h.0 i };
        node = record { 0 = h.1.0 i };
        auto = h.1.1.0 i;
        reason = h.1.1.1.0 i;
        evidence = h.1.1.1.1.0 i;
        last = h.1.1.1.1.1.0 i;
        hand = h.1.1.1.1.1.1 i;
      },
      λ e. each.1 (
        ap (λ r. r.rule.0) e,
        (
          ap (λ r. r.node.0) e,
          (
            ap (λ r. r.auto) e,
            (
              ap (λ r. r.reason) e,
              (ap (λ r. r.evidence) e, (ap (λ r. r.last) e, ap (λ r. r.hand) e)),
            ),
          ),
        ),
      ),
    )

pub outcomes_decide : (a b : Outcomes) → Decides (same_outcomes a b) (a ≡ b)
outcomes_decide a b =
    let rows = pointwise_decides rows_decide a.rows b.rows in
    (λ e. ap (λ rows. record { rows = rows }) (rows.0 e), λ e. rows.1 (ap (λ o. o.rows) e))
