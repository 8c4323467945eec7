use Rattle.std.proofs.Common.{◌≡◌, [], drop}
use Rattle.serde_json.specs.View.{items_view}
use Rattle.case_run.specs.Cases.{cases_from}
use Rattle.case_run.proofs.Listed.{added}
use Rattle.case_run.proofs.reading.each_case.Given as goal

abbrev pub invariant-loop-value : goal.invariant-loop-value
invariant-loop-value l =
    added l.found.items (cases_from l.infos l.found.items l.place (items_view (drop l.value-index l.cases))) ≡ cases_from l.infos [] 1 (items_view l.cases)
