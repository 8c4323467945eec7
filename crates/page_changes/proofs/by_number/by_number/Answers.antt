use Rattle.std.proofs.Common.{◌==◌, if◌then◌else◌, Some, None, ◌∙◌, sym, ap}
use Rattle.std.proofs.lemmas.List.{nil_from_length}
use Rattle.std.specs.Option.{option_or}
use Rattle.number_tables.specs.Tables.{at}
use Rattle.page_changes.specs.ByNumber.{first_agreed}
use Rattle.number_tables.proofs.Filling.{or_none, next_or}
use Rattle.page_changes.proofs.by_number.by_number.Goals as goal

pub loop-marks-preserved : goal.loop-marks-preserved
loop-marks-preserved c = λ n.
    next_or _ _ _ _ _ (c.in_ok-put.ensures.put n ∙ ap (λ a. option_or (at c.loop-marks.table n) (if c.in-Some.marks.now.node.0 == n then Some a else None)) c.agreed.ensures) ∙ ap (λ xs. option_or (at c.loop-marks.table n) (first_agreed n xs)) (sym c.in-Some.ensures.cases.0) ∙ c.loop-marks.invariant n

pub returns : goal.returns
returns c = λ n. or_none _ _ (ap (λ xs. option_or (at c.loop-marks.table n) (first_agreed n xs)) (sym (nil_from_length c.loop-marks.rest.now c.in_default.ensures.cases)) ∙ c.loop-marks.invariant n)
