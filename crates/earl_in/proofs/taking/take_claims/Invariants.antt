use Rattle.std.proofs.Common.{◌≡◌, ◌≤◌, ◌+◌, ◌++◌, take}
use Rattle.std.specs.List.{fold}
use Rattle.earl_in.specs.Taking.{judgement_of, with_entry, nothing}
use Rattle.earl_in.specs.Standing.{AreStanding}
use Rattle.earl_in.specs.Progressing.{so_far}
use Rattle.earl_in.proofs.taking.take_claims.Given as goal

abbrev pub invariant-loop-claim : goal.invariant-loop-claim
invariant-loop-claim l = record {
  taken : so_far l.progress ≡ fold (λ t claim. with_entry l.js t (judgement_of l.address l.rows.rows l.hand claim)) nothing (take l.claim-index l.claims);
  stand : AreStanding l.standing (l.js ++ l.progress.added.items);
  count : l.progress.known + l.progress.skipped ≤ l.claim-index;
}
