use Rattle.std.proofs.Common.{arith, sym, ap, ◌∙◌, subst}
use Rattle.std.specs.List.{fold}
use Rattle.std.proofs.lemmas.List.{take_all}
use Rattle.std.proofs.lemmas.List.Folds.{fold-map}
use Rattle.earl_in.specs.Taking.{judgement_of, with_entry, nothing}
use Rattle.earl_in.specs.Standing.{HasRows}
use Rattle.earl_in.specs.Progressing.{so_far}
use Rattle.earl_in.proofs.Effects.{counted}
use Rattle.earl_in.proofs.Takes.{fold_more}
use Rattle.earl_in.proofs.taking.take_claims.Goals as goal

pub loop-claim-preserved : goal.loop-claim-preserved
loop-claim-preserved c =
    let js = c.args.js.now in
    let meaning = judgement_of c.args.address.now c.args.rows.now.rows c.args.hand.now in
    let told = c.in_ok-take_entry.ensures js c.loop-claim.invariant.stand in
    let entry = c.meant-lent.ensures c.args.rows.now.rows (subst (HasRows c.in_ok-places.places) c.as_slice.ensures c.in_ok-places.ensures) in
    record {
      taken = fold_more (λ t claim. with_entry js t (meaning claim)) nothing c.args.claims.now c.loop-claim.claim-index c.claim-item.result _ _ c.loop-claim-test.true c.claim-item.is c.loop-claim.invariant.taken
          (told.taken ∙ ap (with_entry js (so_far c.loop-claim.progress)) entry);
      stand = told.stand;
      count = omega (arith, told.count, c.loop-claim.invariant.count);
    }

pub returns : goal.returns
returns c =
    let js = c.args.js.now in
    let meaning = judgement_of c.args.address.now c.args.rows.now.rows c.args.hand.now in
    ap (λ added. counted added c.loop-claim.progress.known c.loop-claim.progress.skipped) c.from_vec.ensures ∙ c.loop-claim.invariant.taken
    ∙ ap (fold (λ t claim. with_entry js t (meaning claim)) nothing) (take_all c.loop-claim.claim-index c.args.claims.now (omega arith))
    ∙ sym (fold-map (with_entry js) meaning nothing c.args.claims.now)
