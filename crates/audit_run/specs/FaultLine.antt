-- The line that names what is wrong with a snapshot.
use Rattle.std.specs.Prelude.{ℕ, List, ◌++◌, codes}
use Rattle.snap_json.specs.declared.fault.SnapFault.{SnapFault}
use Rattle.snap_json.specs.Faults.{fault_text}

abbrev pub fault_line : SnapFault → List ℕ
fault_line fault = codes "snapshot fault " ++ fault_text fault ++ codes "\n"
