use Rattle.std.proofs.Common.{arith}
use Rattle.desk_http.specs.Desk.{moment_of}
use Rattle.desk_http.proofs.Moments.{desk_with}
use Rattle.desk_run.proofs.Judged.{judged_before, judged_after, served_by}
use Rattle.desk_run.proofs.serve.serve_by.Goals as goal

pub returns-clause-served : goal.returns-clause-served
returns-clause-served g c =
    let door = g.D.Door in
    let link = g.D.Conn.Link in
    let keeper = g.K.Keeper in
    let calls = g.B.RuleBook.calls in
    let desk = desk_with link.wire link.faults in
    let beside = moment_of keeper calls in
    served_by g.B.RuleBook.book (desk (door.told c.args.door.now) (door.log c.args.door.now) (beside c.args.keeper.now c.args.books.now))
    (desk (door.told c.serve.new.door) (door.log c.serve.new.door) (beside c.serve.new.keeper c.serve.new.books)) _ _ _ _
    (judged_before calls c.args.workers c.args.books.now _ c.split_at_mut-first.ensures.front)
    (judged_after calls c.args.workers c.serve.new.books _ (omega (arith, c.split_at_mut-first.ensures.front_len, c.serve.auto.books))) c.serve.ensures.served
