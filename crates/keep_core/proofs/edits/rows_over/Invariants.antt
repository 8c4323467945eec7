use Rattle.std.proofs.Common.{◌≡◌, map, take}
use Rattle.keep_core.specs.Changes.{put_over}
use Rattle.keep_core.proofs.edits.rows_over.Given as goal

abbrev pub invariant-loop-put : goal.invariant-loop-put
invariant-loop-put l = l.rows.items ≡ map (put_over l.kept) (take l.put-index l.puts)
