use Rattle.std.proofs.Common.{◌∙◌, ap}
use Rattle.std.proofs.lemmas.Result.{IfOk-weaker}
use Rattle.page_changes.specs.References.{naming}
use Rattle.page_changes.proofs.Referring.{naming_page}
use Rattle.page_changes.proofs.labels.labels_by_id.Goals as goal

pub returns : goal.returns
returns c = IfOk-weaker c.labels_among.result _ _ (λ labels h id. h id ∙ ap (naming id) c.rows.ensures.rows ∙ naming_page id c.args.page.now.trees) c.labels_among.ensures
