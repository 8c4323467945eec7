use Rattle.rule_core.specs.Books.{Book}
use Rattle.http_commands.proofs.RequestFits.{answer_fits}
use Rattle.http_commands.proofs.request.request_of.Goals as goal

pub returns-clause-fits : goal.returns-clause-fits
returns-clause-fits g c =
    let book : Book = g.B.RuleBook.book in
    answer_fits book c.args.head.now c.args.body.now c.read_request.result g.met.B.RuleBook.orderly c.read_request.ensures.exact c.read_request.ensures.web
