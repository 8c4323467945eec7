use Rattle.std.proofs.Common.{sym, refl, ap, ◌∙◌}
use Rattle.keep_core.specs.declared.page.Page.{Page}
use Rattle.keep_core.specs.declared.tables.KeptPage.{KeptPage}
use Rattle.keep_core.specs.Tables.{kept_page}
use Rattle.kept_pages.proofs.Wholes.{page_called, page_read, is_named}
use Rattle.kept_pages.proofs.whole.whole_page.Goals as goal

pub returns-clause-reads : goal.returns-clause-reads
returns-clause-reads g c = record {
  stays = λ t told. c.in_ok-found.ensures.reads.stays t (c.in_ok-judgements.ensures.reads.stays t (c.in_ok-outcomes.ensures.reads.stays t told));
  named = ap (λ (p : Page). p.head.page) c.in_ok-page.ensures;
  found =
      λ t told.
      let judged = c.in_ok-outcomes.ensures.reads.stays t told in
      let loaded = c.in_ok-judgements.ensures.reads.stays t judged in
      let name = c.args.head.now.page in
      let js = c.in_ok-judgements.judgements in
      let outcomes = c.in_ok-outcomes.outcomes in
      let whole = c.in_ok-page.ensures ∙ ap (page_called name) c.in_ok-shown.ensures in
      let read : KeptPage = record { page = c.in_ok-page.page; judgements = js; outcomes = outcomes } in
      page_read c.args.languages.now name (kept_page c.args.site.now name t) c.in-Some.found js outcomes read
      (is_named c.args.site.now name t) (sym (c.in_ok-found.ensures.reads.answers t loaded) ∙ c.in-Some.is)
      (sym (c.in_ok-judgements.ensures.reads.answers t judged)) (sym (c.in_ok-outcomes.ensures.reads.answers t told))
      (ap (λ (p : Page). let r : KeptPage = record { page = p; judgements = js; outcomes = outcomes } in r) whole);
}
