use Rattle.std.proofs.Common.{◌∙◌, ap, map}
use Rattle.std.proofs.lemmas.Result.{IfOk-weaker}
use Rattle.snap_tree.specs.declared.row.Row.{Row}
use Rattle.reaudit.specs.Relisted.{agreeing}
use Rattle.reaudit.proofs.ListChanges.{agreeing_flags}
use Rattle.reaudit.proofs.known.flags_between.Goals as goal

pub returns-then-relisted : goal.returns-then-relisted
returns-then-relisted c =
    IfOk-weaker c.all_agreeing.result _ _ (λ flags is.
    agreeing_flags c.args.old.now.trees c.args.new.now.trees flags.items (c.requires c.if-relisted.true).trees (is ∙ ap (map (λ (row : Row). agreeing row.id)) c.rows.ensures.rows)) c.all_agreeing.ensures
