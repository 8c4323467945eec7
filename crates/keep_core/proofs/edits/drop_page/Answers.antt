use Rattle.named_rows.proofs.Changing.{changed_there}
use Rattle.keep_core.specs.declared.tables.KeptSite.{KeptSite}
use Rattle.keep_core.specs.Tables.{site_name}
use Rattle.keep_core.specs.Changes.{without_page}
use Rattle.keep_core.proofs.edits.drop_page.Goals as goal

pub returns-in-Found : goal.returns-in-Found
returns-in-Found c =
    let old : KeptSite = c.at_mut.result.now in
    let new : KeptSite = record old { pages = c.take.new.self } in
    changed_there site_name c.args.site.now c.args.sites.now c.in-Found.i c.in-Found.ensures (without_page c.args.page.now) old new c.at_mut.ensures.value
    (λ i. record { site = old.site; pages = c.take.ensures.taken i })
