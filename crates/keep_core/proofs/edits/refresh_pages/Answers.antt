use Rattle.std.proofs.Common.{sym, ap, ◌∙◌}
use Rattle.keep_core.specs.Changes.{having}
use Rattle.keep_core.specs.Tables.{page_name}
use Rattle.named_rows.specs.ByName.{with_row}
use Rattle.keep_core.proofs.Outcomes.{one_more}
use Rattle.keep_core.proofs.edits.refresh_pages.Goals as goal

pub loop-one-preserved : goal.loop-one-preserved
loop-one-preserved c = (
  c.refresh_page.ensures.refreshed ∙ ap (λ pages. with_row page_name c.in-Some.one.page (having c.in-Some.one.outcomes) pages) c.loop-one.invariant.0
      ∙ sym (one_more c.loop-one.yielded c.in-Some.one c.args.pages.now),
  c.refresh_page.ensures.in_order,
)
