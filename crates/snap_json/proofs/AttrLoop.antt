-- Attributes read one after another, as a loop does.
use Rattle.std.proofs.Common.{List, ◌++◌, Option}
use Rattle.std.specs.Prelude.{option_map}
use Rattle.snap_tree.specs.declared.row.Attr.{Attr}

-- what was read before, and what is still read
abbrev pub after : List Attr → Option (List Attr) → Option (List Attr)
after front rest = option_map (λ others. front ++ others) rest
