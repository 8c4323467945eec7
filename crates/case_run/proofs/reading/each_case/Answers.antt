use Rattle.std.proofs.Common.{◌≡◌, Ok, subst}
use Rattle.serde_json.specs.View.{view}
use Rattle.case_run.specs.Cases.{case_at}
use Rattle.case_run.proofs.Listed.{cases_turn}
use Rattle.case_run.proofs.reading.each_case.Goals as goal

pub loop-value-preserved : goal.loop-value-preserved
loop-value-preserved c =
    let found = c.loop-value.found.items in
    let meant =
    subst (λ earlier. case_at c.args.infos.now earlier c.loop-value.place (view c.value-item.result) ≡ Ok c.in-Ok.case) c.as_slice.ensures.value c.in-Ok.ensures
    in
    cases_turn c.args.infos.now c.args.cases.now c.loop-value.value-index c.value-item.result found c.push.new.self.items c.loop-value.place c.saturating_add-place.result c.in-Ok.case _
    c.loop-value-test.true c.value-item.is c.in_ok-push-in-Ok.ensures.items c.saturating_add-place.ensures c.loop-value.invariant meant
