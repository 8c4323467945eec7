-- Claims that are taken again, on a page whose list begins with all that it had after they were taken: none is new then.
use Rattle.std.proofs.Common.{◌≡◌, ℕ, List, [], ◌++◌, Option, ap, ◌∙◌}
use Rattle.snap_tree.specs.Trees.{Document}
use Rattle.rule_core.specs.Books.{Book}
use Rattle.judge_core.specs.declared.judgement.Judgement.{Judgement}
use Rattle.judge_core.specs.Outcomes.{outcomes}
use Rattle.earl_in.specs.declared.claim.Claim.{Claim}
use Rattle.earl_in.specs.declared.taking.Taken.{Taken}
use Rattle.earl_in.specs.Taking.{taken_of}
use Rattle.earl_in.proofs.Again.{taken_again}
use Rattle.earl_in.proofs.SameRows.{same_rows}
use Rattle.desk_core.specs.State.{PageState}
use Rattle.desk_core.specs.Claiming.{taken_on}

-- a page has this tree, and its list begins with these judgements
pub record HasStayed (seen : Document) (first : List Judgement) (p : PageState) : Type 0 where
  pub tree : p.page.tree ≡ seen
  pub more : List Judgement
  pub judgements : p.judgements ≡ first ++ more

module _ (book : Book) (caller : List ℕ) (claims : List (Option Claim)) where
  -- what the claims come to on a page of this tree with these judgements
  abbrev pub taken_with : Document → List Judgement → Taken
  taken_with tree js = taken_of tree.address (outcomes book tree js) js caller claims

  -- none is new where they are taken again
  pub none_then : (tree : Document) (js : List Judgement) (p : PageState) → HasStayed tree (js ++ (taken_with tree js).added) p → (taken_on book caller claims p).added ≡ []
  none_then tree js p stayed =
      let all = js ++ (taken_with tree js).added ++ stayed.more in
      ap (λ (seen : Document). (taken_with seen p.judgements).added) stayed.tree ∙ ap (λ l. (taken_with tree l).added) stayed.judgements
      ∙ ap (λ (t : Taken). t.added)
      (taken_again tree.address (outcomes book tree js) (outcomes book tree all) js stayed.more caller claims (same_rows book tree js all))
