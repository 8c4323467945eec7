use Rattle.named_rows.proofs.Changing.{changed_if_ok}
use Rattle.keep_core.specs.Tables.{site_name}
use Rattle.keep_core.specs.Changes.{with_pages}
use Rattle.keep_core.proofs.edits.put_pages.Goals as goal

pub returns-clause-made : goal.returns-clause-made
returns-clause-made c =
    changed_if_ok site_name c.args.site.now c.args.sites.now c.in-Found.i c.in-Found.ensures c.put_in_site.result
    (with_pages c.args.counter c.args.puts.now) c.at_mut-kept.result.now c.put_in_site.new.kept c.at_mut-kept.ensures.value c.put_in_site.ensures.made
