use Rattle.std.proofs.Common.{◌≡◌, Result, Ok, Err, OnOk, ap}
use Rattle.named_rows.proofs.Changing.{changed_if_ok}
use Rattle.keep_core.specs.declared.tables.KeptSite.{KeptSite}
use Rattle.keep_core.specs.Tables.{site_name}
use Rattle.keep_core.specs.Changes.{with_judged}
use Rattle.keep_core.proofs.edits.add_judgements.Goals as goal

ap_if_ok : {A E X Y : Type 0} (r : Result A E) (f : X → Y) (x y : X) → OnOk r (x ≡ y) → OnOk r (f x ≡ f y)
ap_if_ok (Ok a) f x y same = ap f same
ap_if_ok (Err e) f x y same = tt

pub returns-clause-made : goal.returns-clause-made
returns-clause-made c =
    let old : KeptSite = c.at_mut-kept.result.now in
    let change = with_judged c.args.page.now c.args.js.now c.args.outcomes.now in
    changed_if_ok site_name c.args.site.now c.args.sites.now c.in-Found.i c.in-Found.ensures c.judge_in_site.result
    change old (record old { pages = c.judge_in_site.new.pages }) c.at_mut-kept.ensures.value
    (ap_if_ok c.judge_in_site.result (λ pages. record old { pages = pages }) c.judge_in_site.new.pages (change old).pages c.judge_in_site.ensures.made)
