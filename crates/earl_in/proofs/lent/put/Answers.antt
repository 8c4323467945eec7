use Rattle.std.proofs.Common.{not, sym, ap, ◌∙◌}
use Rattle.earl_in.proofs.Held.{stays, grows}
use Rattle.earl_in.proofs.lent.put.Goals as goal

pub returns-then-contains : goal.returns-then-contains
returns-then-contains c =
    λ js are.
    let there = sym c.contains.ensures ∙ c.if-contains.true in record {
      told = sym (ap not (sym (are c.args.lent) ∙ there));
      stand = stays c.args.lent js c.args.standing.now are there;
    }

pub returns : goal.returns
returns c =
    λ js are.
    let absent = sym c.contains.ensures ∙ c.if-contains.false in record {
      told = sym (ap not (sym (are c.args.lent) ∙ absent));
      stand = grows c.args.lent js c.args.standing.now c.insert.new.self are c.in_ok-insert.ensures.updates;
    }
