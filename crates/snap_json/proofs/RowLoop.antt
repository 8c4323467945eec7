-- Rows read one after another, as a loop does.
use Rattle.std.proofs.Common.{List, ◌++◌, Result, Ok}
use Rattle.snap_tree.specs.declared.row.Row.{Row}
use Rattle.snap_json.specs.declared.fault.SnapFault.{SnapFault}
use Rattle.snap_json.specs.Faults.{◌>>=◌}

-- what was read before, and what is still read
abbrev pub after : List Row → Result (List Row) SnapFault → Result (List Row) SnapFault
after front rest = rest >>= λ others. Ok (front ++ others)
