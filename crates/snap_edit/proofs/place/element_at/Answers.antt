use Rattle.std.proofs.Common.{Err, sym, ◌∙◌}
use Rattle.snap_edit.specs.declared.fault.EditKind.TheVariants.{NotElement}
use Rattle.snap_edit.proofs.Standing.{at_text}
use Rattle.snap_edit.proofs.place.element_at.Goals as goal

pub returns-then-is_text-clause-refused : goal.returns-then-is_text-clause-refused
returns-then-is_text-clause-refused c =
    let text = sym c.is_text.ensures ∙ c.if-is_text.true in
    λ next. at_text (Err NotElement) next c.in_ok-place.ensures.place c.row_at.ensures text

pub returns-clause-place : goal.returns-clause-place
returns-clause-place c =
    let text = sym c.is_text.ensures ∙ c.if-is_text.false in
    record {
      node = c.in_ok-place.ensures.place;
      follows = λ next. at_text (Err NotElement) next c.in_ok-place.ensures.place c.row_at.ensures text;
    }
