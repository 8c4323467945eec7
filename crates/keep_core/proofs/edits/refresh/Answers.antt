use Rattle.named_rows.proofs.Changing.{changed_if_ok}
use Rattle.keep_core.specs.Tables.{site_name}
use Rattle.keep_core.specs.Changes.{refreshed}
use Rattle.keep_core.proofs.edits.refresh.Goals as goal

pub returns-clause-made : goal.returns-clause-made
returns-clause-made c =
    changed_if_ok site_name c.args.site.now c.args.sites.now c.in-Found.i c.in-Found.ensures c.refresh_site.result
    (refreshed c.args.outcomes.now) c.at_mut-kept.result.now c.refresh_site.new.kept c.at_mut-kept.ensures.value c.refresh_site.ensures.made
