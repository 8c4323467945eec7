-- What is decided on edits of a page where nothing stands against them, and what they cost.
use Rattle.std.proofs.Common.{◌≡◌, ℕ, List, true, Option, Some, None, Result, Ok, option_map, refl, sym, ap, subst, ◌∙◌}
use Rattle.std.specs.Option.{option_map_or}
use Rattle.snap_tree.specs.Trees.{Trees, Document, with_trees}
use Rattle.snap_edit.specs.declared.edit.Edit.{Edit}
use Rattle.snap_edit.specs.declared.fault.EditFault.{EditFault}
use Rattle.snap_edit.specs.Edits.{edited_all}
use Rattle.rule_core.specs.Books.{Book}
use Rattle.keep_core.specs.declared.site.Site.{Site}
use Rattle.keep_core.specs.declared.tables.KeptSite.{KeptSite}
use Rattle.keep_core.specs.declared.tables.Tables.{Tables}
use Rattle.keep_core.specs.Tables.{kept_site, site_of}
use Rattle.desk_core.specs.declared.refusal.Limit.TheVariants as limit
use Rattle.desk_core.specs.declared.refusal.Refusal.{Refusal}
use Rattle.desk_core.specs.declared.refusal.Refusal.TheVariants as refusal
use Rattle.desk_core.specs.Refusals.{unless}
use Rattle.desk_core.specs.State.{PageState, site_state, state_of, site_at, page_at}
use Rattle.desk_core.specs.Pages.{has_revisions, current, edited, renewed, edit_page}
use Rattle.desk_core.specs.Costs.{at_page}
use Rattle.desk_core.specs.Serving.{Stands, page_in}
use Rattle.desk_core.proofs.Views.{site_seen}
use Rattle.desk_core.proofs.Ways.{page_is}
use Rattle.desk_core.proofs.PutLaws.{current_is}

module _ (book : Book) (site caller page : List ℕ) (rev : ℕ) (edits : List Edit) (s : Site) (kept : PageState)
    (more : has_revisions s.counter 1 ≡ true) (same : rev ≡ kept.page.head.rev) where
  edit_at : edit_page book site caller page rev edits s kept
      ≡ edited kept.page.tree (edited_all kept.page.tree.trees edits) (renewed book site caller page s.counter kept.judgements)
  edit_at =
      let next = edited kept.page.tree (edited_all kept.page.tree.trees edits) (renewed book site caller page s.counter kept.judgements) in
      ap (λ b. unless b (refusal.PageLimit limit.Revisions) (current rev kept.page.head.rev next)) more ∙ current_is rev kept.page.head.rev next same

  pub edit_is : (tree : Document) → edited_all kept.page.tree.trees edits ≡ Ok tree.trees → tree ≡ with_trees kept.page.tree tree.trees
      → edit_page book site caller page rev edits s kept ≡ renewed book site caller page s.counter kept.judgements tree
  edit_is tree is whole =
      edit_at
      ∙ (ap (λ (r : Result Trees EditFault). edited kept.page.tree r (renewed book site caller page s.counter kept.judgements)) is
      ∙ ap (renewed book site caller page s.counter kept.judgements) (sym whole))

  pub edit_refused : (r : Refusal) → Stands ⊥ r (edited kept.page.tree (edited_all kept.page.tree.trees edits) (renewed book site caller page s.counter kept.judgements))
      → Stands ⊥ r (edit_page book site caller page rev edits s kept)
  edit_refused r stands = subst (Stands ⊥ r) (sym edit_at) stands

costs_by : (page : List ℕ) (o : Option KeptSite) (s : Site) (p : PageState) (f : PageState → ℕ) → option_map (λ (k : KeptSite). k.site) o ≡ Some s
    → ((k : KeptSite) → o ≡ Some k → page_at page (site_state k).pages ≡ Some p) → at_page page (option_map site_state o) f ≡ f p
costs_by page None s p f is has = cc
costs_by page (Some k) s p f is has = ap (λ (q : Option PageState). option_map_or f q 0) (has k refl)

-- what is counted of a page that was found
pub costs_at : (site page : List ℕ) (t : Tables) (s : Site) (p : PageState) (f : PageState → ℕ) → site_of site t ≡ Some s → page_in site page t ≡ Some p
    → at_page page (site_at site (state_of t)) f ≡ f p
costs_at site page t s p f is there =
    ap (λ o. at_page page o f) (site_seen site t) ∙ costs_by page (kept_site site t) s p f is (λ k has. page_is site page t k has ∙ there)
