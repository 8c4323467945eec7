use Rattle.store_tables.proofs.Shown.{edition_told, names_told, site_told, page_told, heads_told, judgements_told, outcomes_told}
use Rattle.store_tables.proofs.Memberships.{memberships_told}
use Rattle.store_tables.proofs.laws.laws_of_reading.Goals as goal

pub returns : goal.returns
returns c = record {
  edition = edition_told;
  names = names_told;
  site = site_told;
  memberships = memberships_told;
  page = page_told;
  heads = heads_told;
  judgements = judgements_told;
  outcomes = outcomes_told;
}
