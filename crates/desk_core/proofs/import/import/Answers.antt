use Rattle.std.proofs.Common.{◌≤◌, ◌+◌, sum_by, sym, subst}
use Rattle.rule_core.specs.Books.{Book}
use Rattle.desk_core.specs.declared.command.Command.TheVariants as command
use Rattle.desk_core.specs.Fitting.{FitsEntries}
use Rattle.desk_core.specs.Steps.{Request}
use Rattle.desk_core.specs.Costs.{import_judgings}
use Rattle.desk_core.specs.Placing.{import_placed}
use Rattle.desk_core.proofs.Onward.{decides_by, read_as, decides_so}
use Rattle.desk_core.proofs.ImportLaws.{arrived}
use Rattle.desk_core.proofs.Accepting.{import_placed_accepts}
use Rattle.desk_core.proofs.ImportFits.{import_placed_fits, import_placed_keeps}
use Rattle.desk_core.proofs.import.import.Goals as goal

pub returns-clause-decides : goal.returns-clause-decides
returns-clause-decides g c =
    let book : Book = g.B.RuleBook.book in
    let a = c.args in
    let at = c.in_ok-arrival.arrival in
    let request : Request = record { caller = a.caller.now; command = command.Import a.site a.entries } in
    decides_by book request _ _ _ c.decide.result (import_placed book a.site at.languages a.caller.now at.counter at.pages at.placed)
    c.in_ok-arrival.ensures.reads c.decide.ensures.decided
    (import_placed_fits book at.languages a.caller.now a.site at.counter at.pages at.placed c.requires.site (subst FitsEntries (sym c.in_ok-arrival.ensures.listed) c.requires.entries))
    (import_placed_keeps book at.languages a.caller.now a.site at.counter at.pages at.placed)
    (import_placed_accepts book a.site at.languages a.caller.now at.counter at.pages at.placed)
    (λ t told.
    let f = c.in_ok-arrival.ensures.found t told in
    arrived book a.caller.now a.site a.entries t f.0 at.counter at.languages at.pages at.placed f.1 f.2 f.3 f.4 f.5)

pub returns-clause-counted : goal.returns-clause-counted
returns-clause-counted g c =
    let book : Book = g.B.RuleBook.book in
    subst (λ es. sum_by g.B.RuleBook.calls c.decide.new.books ≤ sum_by g.B.RuleBook.calls c.args.books.now + import_judgings book es) c.in_ok-arrival.ensures.listed c.decide.ensures.counted

pub returns-in_err-arrival-clause-decides : goal.returns-in_err-arrival-clause-decides
returns-in_err-arrival-clause-decides g c = decides_so c.in_err-arrival.field-0.0 c.from_residual.ensures.1
    (record {
      reads = read_as _ _ _ c.in_err-arrival.ensures.reads;
      agrees = λ t told sound. c.in_err-arrival.ensures.refused t told _;
      fits = tt;
      there = tt;
      accepted = tt;
      edition = tt;
      firm = tt;
    })
