use Rattle.std.proofs.Common.{sym, subst}
use Rattle.acc_tree.specs.Seen.{seen}
use Rattle.page_keys.specs.Standing.{Stand}
use Rattle.page_changes.specs.Beside.{ahead_of}
use Rattle.page_changes.proofs.met.meet.Goals as goal

pub returns-in-Some : goal.returns-in-Some
returns-in-Some c =
    λ ups others here whole stand pair.
    let new = seen c.args.new.now.trees in
    c.met_ahead.ensures new ups others here c.in-Some.ensures.0 (c.in-Some.ensures.1 new others (subst (λ o. Stand new others (ahead_of o)) (sym c.as_ref.ensures.value) stand)) pair
