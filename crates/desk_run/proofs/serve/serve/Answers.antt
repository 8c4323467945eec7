use Rattle.std.proofs.Common.{arith, refl}
use Rattle.std.proofs.lemmas.List.{length-map}
use Rattle.desk_run.proofs.Served.{fresh_serves}
use Rattle.desk_run.proofs.serve.serve.Goals as goal

pub returns-in-Ok : goal.returns-in-Ok
returns-in-Ok g c =
    fresh_serves _ _ _ _ _ _ _
    (record {
      enough = omega (arith, c.if-serving-books.false, length-map c.args.books.now g.B.RuleBook.calls);
      same = record { door = refl; log = refl };
      refreshed = c.in-Ok.ensures;
    })
    c.serve_fresh.ensures

pub returns-in-Err-Failed : goal.returns-in-Err-Failed
returns-in-Err-Failed g c = (
  record {
    enough = omega (arith, c.if-serving-books.false, length-map c.args.books.now g.B.RuleBook.calls);
    same = record { door = refl; log = refl };
    refreshed = rw c.in-Err-Failed.field-0-is at c.in-Err-Failed.ensures;
  },
  refl,
)

pub returns-in-Err-OutOfMemory : goal.returns-in-Err-OutOfMemory
returns-in-Err-OutOfMemory g c = (
  record {
    enough = omega (arith, c.if-serving-books.false, length-map c.args.books.now g.B.RuleBook.calls);
    same = record { door = refl; log = refl };
    refreshed = rw c.in-Err-OutOfMemory.field-0-is at c.in-Err-OutOfMemory.ensures;
  },
  refl,
)
