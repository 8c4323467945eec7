use Rattle.std.proofs.Common.{◌++◌, ◌∷◌, [], arith, append_assoc, subst, sym, ap, ◌∙◌}
use Rattle.earl_in.specs.Standing.{owned, AreStanding}
use Rattle.earl_in.proofs.Held.{left_out}
use Rattle.earl_in.proofs.Takes.{one_added, one_known, stands_there}
use Rattle.earl_in.proofs.taking.take_judgement.Goals as goal

pub returns-then-branch : goal.returns-then-branch
returns-then-branch c =
    λ js are.
    let j = owned c.args.lent in
    let old = c.args.progress.now in
    let put = c.in_ok-put.ensures (js ++ old.added.items) are in
    let more = c.in_ok-push.ensures.items ∙ ap (λ x. old.added.items ++ x ∷ []) c.in_ok-owned.ensures in record {
      taken = one_added js old.added.items _ old.known old.skipped j (sym put.told ∙ c.if-branch.true) more;
      stand = subst (λ l. AreStanding c.put.new.standing l) (append_assoc js old.added.items (j ∷ []) ∙ ap (λ l. js ++ l) (sym more)) put.stand;
      count = omega arith;
    }

pub returns : goal.returns
returns c =
    λ js are.
    let j = owned c.args.lent in
    let old = c.args.progress.now in
    let put = c.in_ok-put.ensures (js ++ old.added.items) are in
    let there = sym put.told ∙ c.if-branch.false in record {
      taken = one_known js old.added.items old.known old.skipped j there;
      stand = left_out j (js ++ old.added.items) c.put.new.standing (stands_there j (js ++ old.added.items) there) put.stand;
      count = omega arith;
    }
