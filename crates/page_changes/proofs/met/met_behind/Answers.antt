use Rattle.std.proofs.Common.{sym, subst}
use Rattle.acc_tree.specs.Seen.{seen}
use Rattle.page_keys.specs.Standing.{Stand}
use Rattle.page_changes.specs.Beside.{ahead_of}
use Rattle.page_changes.proofs.met.met_behind.Goals as goal

pub returns-in-Some : goal.returns-in-Some
returns-in-Some c =
    λ ups others here whole stand pair.
    let new = seen c.args.new.now.trees in
    c.met_ahead.ensures new ups others here c.in-Some.ensures.0 (c.in-Some.ensures.1 new others (subst (λ o. Stand new others (ahead_of o)) (sym c.as_ref.ensures.value) stand)) pair

pub returns-in-Some-sight_of : goal.returns-in-Some-sight_of
returns-in-Some-sight_of c = λ ups others here whole stand pair. c.met_elsewhere.ensures (seen c.args.new.now.trees) ups others here whole c.in-Some-sight_of.ensures stand pair

pub returns-in-None : goal.returns-in-None
returns-in-None c = λ ups others here whole stand pair. c.unmet.ensures (seen c.args.new.now.trees) (seen c.args.kids.now) ups others here c.in-None.ensures stand pair
