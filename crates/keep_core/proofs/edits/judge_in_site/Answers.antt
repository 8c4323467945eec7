use Rattle.named_rows.proofs.Changing.{changed_if_ok}
use Rattle.keep_core.specs.Tables.{page_name}
use Rattle.keep_core.specs.Changes.{with_judgements}
use Rattle.keep_core.proofs.edits.judge_in_site.Goals as goal

pub returns-clause-made : goal.returns-clause-made
returns-clause-made c =
    changed_if_ok page_name c.args.page.now c.args.pages.now c.in-Found.i c.in-Found.ensures c.judge_page.result
    (with_judgements c.args.js.now c.args.outcomes.now) c.at_mut-kept.result.now c.judge_page.new.kept c.at_mut-kept.ensures.value c.judge_page.ensures.made
