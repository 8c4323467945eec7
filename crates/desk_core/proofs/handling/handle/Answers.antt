use Rattle.rule_core.specs.Books.{Book}
use Rattle.desk_core.specs.Steps.{Request}
use Rattle.desk_core.proofs.Costing.{costs_later}
use Rattle.desk_core.proofs.Served.{serves_decided, serves_refused}
use Rattle.desk_core.proofs.handling.handle.Goals as goal

pub returns-in-Ok-clause-served : goal.returns-in-Ok-clause-served
returns-in-Ok-clause-served g c =
    let book : Book = g.B.RuleBook.book in
    let request : Request = record { caller = c.args.caller.now; command = c.args.command } in
    serves_decided book request _ _ _ c.in-Ok.decided c.commit.result c.requires.fits c.in-Ok.ensures.decided c.commit.ensures

pub returns-in-Ok-clause-counted : goal.returns-in-Ok-clause-counted
returns-in-Ok-clause-counted g c =
    let book : Book = g.B.RuleBook.book in
    costs_later book c.args.command c.in-Ok.decided _ _ _ c.commit.result _ _ c.commit.ensures c.in-Ok.ensures.counted

pub returns-in-Err-clause-served : goal.returns-in-Err-clause-served
returns-in-Err-clause-served g c =
    let book : Book = g.B.RuleBook.book in
    let request : Request = record { caller = c.args.caller.now; command = c.args.command } in
    serves_refused book request _ _ c.in-Err.refusal c.in-Err.ensures.decided
