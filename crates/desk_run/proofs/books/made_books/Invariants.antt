use Rattle.std.proofs.Common.{◌≡◌, vec_len}
use Rattle.desk_run.proofs.books.made_books.Given as goal

abbrev pub invariant-loop : goal.invariant-loop
invariant-loop g l = vec_len l.books ≡ l.counter
