use Rattle.std.proofs.Common.{◌≡◌, ◌∙◌}
use Rattle.store_run.specs.Refusal.{edition_line}
use Rattle.store_run.proofs.Told.{told_edition}
use Rattle.store_run.proofs.refusal.refuse_edition.Goals as goal

pub returns-in-Ok : goal.returns-in-Ok
returns-in-Ok g c =
    let line : c.as_str.result.now ≡ edition_line c.args.number = c.as_str.ensures ∙ c.in-Ok.ensures in
    told_edition c.args.number _ _ _ _ _ c.tell_line.ensures c.number.ensures line
