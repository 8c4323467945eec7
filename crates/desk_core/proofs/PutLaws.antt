-- What is decided on a page where nothing stands against it.
use Rattle.std.proofs.Common.{◌≡◌, ℕ, List, true, Option, Some, None, sym, ap, subst, ◌∙◌, eq-eqb}
use Rattle.std.specs.Option.{option_map_or}
use Rattle.snap_tree.specs.declared.row.Raw.{Raw}
use Rattle.snap_tree.specs.declared.fault.TreeFault.{TreeFault}
use Rattle.snap_tree.specs.Trees.{Document, with_langs}
use Rattle.snap_tree.specs.Grown.{page_of}
use Rattle.snap_tree.specs.Faults.{tree_fault}
use Rattle.rule_core.specs.Books.{Book}
use Rattle.keep_core.specs.declared.site.Site.{Site}
use Rattle.desk_core.specs.declared.refusal.Limit.TheVariants as limit
use Rattle.desk_core.specs.declared.refusal.Refusal.{Refusal}
use Rattle.desk_core.specs.declared.refusal.Refusal.TheVariants as refusal
use Rattle.desk_core.specs.Refusals.{Decision, unless, unless_refused}
use Rattle.judge_core.specs.declared.judgement.Judgement.{Judgement}
use Rattle.desk_core.specs.Pages.{due, has_room, has_revisions, current, built, renewed, put_page}
use Rattle.desk_core.specs.Serving.{Stands}

pub current_is : (rev now : ℕ) (next : Decision) → rev ≡ now → current rev now next ≡ next
current_is rev now next is = ap (λ b. unless b (refusal.StaleRevision now None) next) (eq-eqb rev now is)

pub built_is : (page : Option (List ℕ)) (raw : Raw) (next : Document → Decision) (tree : Document) → tree ≡ page_of raw → tree_fault raw.rows ≡ None → built page raw next ≡ next tree
built_is page raw next tree is none =
    ap (λ (o : Option TreeFault). unless_refused (option_map_or (λ fault. Some (refusal.TreeFault fault page)) o None) (next (page_of raw))) none ∙ ap next (sym is)

module _ (book : Book) (site caller page : List ℕ) (rev : ℕ) (raw : Raw) (s : Site) (there : Option ℕ) (js : List Judgement) (pages : ℕ)
    (room : has_room there pages ≡ true) (more : has_revisions s.counter 1 ≡ true) (same : rev ≡ due there) where
  -- the new page, with the site's languages
  abbrev pub listed_next : Document → Decision
  listed_next tree = renewed book site caller page s.counter js (with_langs tree s.languages)

  put_at : put_page book site caller page rev raw s there js pages ≡ built None raw listed_next
  put_at =
      let next = built None raw listed_next in
      ap (λ b. unless b (refusal.PageLimit limit.Pages) (unless (has_revisions s.counter 1) (refusal.PageLimit limit.Revisions) (current rev (due there) next))) room
      ∙ (ap (λ b. unless b (refusal.PageLimit limit.Revisions) (current rev (due there) next)) more ∙ current_is rev (due there) next same)

  pub put_is : (tree : Document) → tree ≡ page_of raw → tree_fault raw.rows ≡ None
      → put_page book site caller page rev raw s there js pages ≡ listed_next tree
  put_is tree is none = put_at ∙ built_is None raw listed_next tree is none

  pub put_refused : (r : Refusal) → Stands ⊥ r (built None raw listed_next) → Stands ⊥ r (put_page book site caller page rev raw s there js pages)
  put_refused r stands = subst (Stands ⊥ r) (sym put_at) stands
