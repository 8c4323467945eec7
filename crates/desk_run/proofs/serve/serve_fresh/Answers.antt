use Rattle.std.proofs.Common.{arith, refl, inr}
use Rattle.std.proofs.lemmas.List.{length-map}
use Rattle.counts.proofs.CountLaws.{rose_after}
use Rattle.desk_run.proofs.Served.{served}
use Rattle.desk_run.proofs.serve.serve_fresh.Goals as goal

pub returns-in-Ok-serve_by : goal.returns-in-Ok-serve_by
returns-in-Ok-serve_by g c = (
  served _ _ _ _ _ _ (omega (arith, c.requires.enough, length-map c.args.books.now g.B.RuleBook.calls)) c.in-Ok.ensures.listens c.in-Ok.ensures.log c.in-Ok.ensures.counts.same
      c.serve_by.ensures.heard c.serve_by.ensures.given_back c.serve_by.ensures.served c.serve_by.ensures.sound c.serve_by.ensures.spares,
  c.in-Ok-serve_by.ensures.all,
  refl,
)

pub returns-in-Err : goal.returns-in-Err
returns-in-Err g c = (
  rose_after _ _ _ c.in-Ok.ensures.counts.never_falls c.in-Err.ensures.counts.rose,
  inr (served _ _ _ _ _ _ (omega (arith, c.requires.enough, length-map c.args.books.now g.B.RuleBook.calls)) c.in-Ok.ensures.listens c.in-Ok.ensures.log c.in-Ok.ensures.counts.same
      c.serve_by.ensures.heard c.serve_by.ensures.given_back c.serve_by.ensures.served c.serve_by.ensures.sound c.serve_by.ensures.spares),
  refl,
)
