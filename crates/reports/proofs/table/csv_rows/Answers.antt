use Rattle.std.proofs.Common.{◌≡◌, ℕ, List, [], ◌∷◌, ◌++◌, Some, unwrap_or, refl, ap, ◌∙◌}
use Rattle.csv.specs.Writing.{text_written}
use Rattle.reports.specs.Table.{csv_rows}
use Rattle.reports.specs.Writing.{HasWritten}
use Rattle.reports.proofs.table.csv_rows.Goals as goal

pub returns-in-Ok : goal.returns-in-Ok
unfolding csv_rows
returns-in-Ok c =
    let from = c.from_writer-writer.ensures in
    let empty : text_written (λ v. Some v.items) c.from_writer-writer.result ≡ Some [] = rw (from.wtr, from.empty, c.new-2.ensures.items) refl in
    let begun : HasWritten (λ v. Some v.items) c.from_writer-writer.result [] =
    record { setup = from.cfg ∙ c.new.ensures; at_first = from.fields; shows_none = from.wrote; text_is = empty } in
    let headed = c.in_ok-push_header.ensures [] begun in
    let whole = c.in_ok-push_pages.ensures _ headed in
    c.in-Ok.ensures.ok ∙ ap (λ o. unwrap_or o []) whole.text_is
