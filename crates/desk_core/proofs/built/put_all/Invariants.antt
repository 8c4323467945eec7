use Rattle.std.proofs.Common.{◌≡◌, map}
use Rattle.desk_core.specs.Placing.{put_of}
use Rattle.desk_core.proofs.built.put_all.Given as goal

abbrev pub invariant-loop-head : goal.invariant-loop-head
invariant-loop-head l = l.puts.items ≡ map put_of l.yielded
