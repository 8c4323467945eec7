use Rattle.keep_core.proofs.Fitting.{changed_fits}
use Rattle.keep_core.proofs.Making as making
use Rattle.keep_core.proofs.laws.laws_of_changes.Goals as goal

pub returns : goal.returns
returns c = record {
  fit = changed_fits;
  others_stay = making.others_stay;
  site_put = making.site_put;
  judgements_stay = making.judgements_stay;
  page_dropped = making.page_dropped;
  page_judged = making.page_judged;
  relisted = making.site_relisted;
  refreshed = making.site_refreshed;
}
