use Rattle.std.proofs.Common.{◌∙◌}
use Rattle.page_changes.proofs.Seeing.{html_seen}
use Rattle.page_changes.proofs.labels.is_html.Goals as goal

pub returns : goal.returns
returns c = c.is_html.ensures ∙ html_seen c.args.tag.now c.args.row.now
