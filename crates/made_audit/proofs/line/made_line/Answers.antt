use Rattle.std.proofs.Common.{arith, ap}
use Rattle.audit.specs.Pages.{pages_judgings}
use Rattle.made_audit.proofs.Spans.{line_so, all_works}
use Rattle.made_audit.proofs.line.made_line.Goals as goal

pub returns-clause-line : goal.returns-clause-line
returns-clause-line g c = line_so c.line_of.result g.B.RuleBook.book c.args.number c.args.pages c.in_ok-counted.counted c.in_ok-counted.ensures.counted c.line_of.ensures

pub returns-in_err-counted-clause-counted : goal.returns-in_err-counted-clause-counted
returns-in_err-counted-clause-counted g c = omega (arith, c.count_pages.ensures.judged, ap (pages_judgings g.B.RuleBook.book) (all_works c.args.number c.args.pages))

pub returns-clause-counted : goal.returns-clause-counted
returns-clause-counted g c = omega (arith, c.count_pages.ensures.judged, ap (pages_judgings g.B.RuleBook.book) (all_works c.args.number c.args.pages))
