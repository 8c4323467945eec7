use Rattle.std.proofs.Common.{refl}
use Rattle.case_run.proofs.Straightened.{case_keys, plain_keys, straight_case}
use Rattle.case_run.proofs.straight.case_straight.Goals as goal

pub cut_object-requires : goal.cut_object-requires
cut_object-requires c = plain_keys _ (record { first = refl; second = refl; third = refl; last = refl })

pub returns-in-Some : goal.returns-in-Some
returns-in-Some c = straight_case c.args.infos.now case_keys c.args.part.now _ c.case_of.result (record { first = refl; second = refl; third = refl; last = refl }) c.in-Some.ensures c.case_of.ensures
