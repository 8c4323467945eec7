use Rattle.std.proofs.Common.{◌≡◌, ◌++◌, length, map}
use Rattle.std.specs.String.{string_bytes}
use Rattle.std.specs.Vec.Iter.{into_iter_items, into_iter_len}
use Rattle.desk_run.proofs.arguments.texts_of.Given as goal

abbrev pub invariant-loop-string : goal.invariant-loop-string
invariant-loop-string l =
    (l.texts.items ++ map string_bytes (into_iter_items l.string-iterator) ≡ map string_bytes (into_iter_items l.initial.string-iterator))
    × (into_iter_len l.string-iterator ≡ length (into_iter_items l.string-iterator))
