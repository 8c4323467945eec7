use Rattle.desk_core.proofs.SheetLaws.{decides_sheet, decides_no_sheet}
use Rattle.desk_core.proofs.Onward.{decides_so}
use Rattle.desk_core.proofs.sheets.get_sheet.Goals as goal

pub returns : goal.returns
returns g c =
    λ book. decides_sheet book c.args.caller.now c.args.site c.args.form _ _ c.in_ok-sheet.sheet c.sheet_reply.result c.sheet_reply.ensures (c.in_ok-sheet.ensures book)

pub returns-in_err-sheet : goal.returns-in_err-sheet
returns-in_err-sheet g c = λ book. decides_so c.in_err-sheet.field-0.0 c.from_residual.ensures.1
    (decides_no_sheet book c.args.caller.now c.args.site c.args.form _ _ c.in_err-sheet.field-0.0 (c.in_err-sheet.ensures book))
