use Rattle.std.proofs.Common.{◌≡◌, All, map, zip, sym, subst, ap, ◌∙◌}
use Rattle.audit.specs.Pages.{pages_outcomes}
use Rattle.rule_core.specs.Books.{Book}
use Rattle.desk_core.specs.Relisting.{outcomes_named}
use Rattle.desk_core.specs.Refreshing.{AreByBook}
use Rattle.desk_core.proofs.ByHeads.{outcomes_page}
use Rattle.desk_core.proofs.Batches.{batch_of, batch_named, batch_by_book, batch_counted}
use Rattle.desk_core.proofs.editions.audit_some.Goals as goal

pub returns-clause-audits : goal.returns-clause-audits
returns-clause-audits g c =
    let book : Book = g.B.RuleBook.book in
    let heads = c.args.heads.now in
    let pages = c.in_ok-pages.pages in
    let are : c.in_ok-name_all.field-0.items ≡ batch_of book heads pages =
    c.in_ok-name_all.ensures
    ∙ ap (λ os. map outcomes_named (zip heads os)) (c.in_ok-outcomes.ensures.outcomes ∙ ap (pages_outcomes book) (c.as_slice.ensures.value ∙ c.in_ok-works.ensures)) in
    record {
      stays = c.in_ok-pages.ensures.reads.stays;
      named = ap (map outcomes_page) are ∙ batch_named book heads pages c.in_ok-pages.ensures.reads.named;
      found =
          λ t told.
          subst (All (AreByBook book c.args.site.now c.args.languages.now t)) (sym are)
          (batch_by_book book c.args.site.now c.args.languages.now t heads pages (c.in_ok-pages.ensures.reads.found t told));
    }

pub returns-clause-counted : goal.returns-clause-counted
returns-clause-counted g c =
    batch_counted g.B.RuleBook.book c.args.site.now c.args.languages.now c.args.heads.now c.in_ok-pages.pages c.as_slice.result.now _ _ _ _ (c.as_slice.ensures.value ∙ c.in_ok-works.ensures)
    c.in_ok-pages.ensures.reads.stays c.in_ok-pages.ensures.reads.found c.audit_pages.ensures.counted

pub returns-in_err-outcomes-clause-counted : goal.returns-in_err-outcomes-clause-counted
returns-in_err-outcomes-clause-counted g c =
    batch_counted g.B.RuleBook.book c.args.site.now c.args.languages.now c.args.heads.now c.in_ok-pages.pages c.as_slice.result.now _ _ _ _ (c.as_slice.ensures.value ∙ c.in_ok-works.ensures)
    c.in_ok-pages.ensures.reads.stays c.in_ok-pages.ensures.reads.found c.audit_pages.ensures.counted

pub returns-in_err-name_all-clause-counted : goal.returns-in_err-name_all-clause-counted
returns-in_err-name_all-clause-counted g c =
    batch_counted g.B.RuleBook.book c.args.site.now c.args.languages.now c.args.heads.now c.in_ok-pages.pages c.as_slice.result.now _ _ _ _ (c.as_slice.ensures.value ∙ c.in_ok-works.ensures)
    c.in_ok-pages.ensures.reads.stays c.in_ok-pages.ensures.reads.found c.audit_pages.ensures.counted
