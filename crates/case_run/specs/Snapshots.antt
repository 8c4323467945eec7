-- The snapshot of a case, which is a value within the list.
use Rattle.std.specs.Prelude.{ℕ, Result, Ok, Err}
use Rattle.serde_json.specs.Data.{Data}
use Rattle.snap_tree.specs.Trees.{Document}
use Rattle.snap_json.specs.declared.fault.SnapFault.{SnapFault}
use Rattle.snap_json.specs.Faults.{◌>>=◌}
use Rattle.snap_json.specs.Pages.{sent_page_of, built}
use Rattle.case_run.specs.declared.fault.CasesFault.{CasesFault}
use Rattle.case_run.specs.declared.fault.CasesFault.TheVariants.{Snapshot}

-- what is read of the snapshot of the case at a place, or its fault
abbrev pub in_case : {A : Type 0} → ℕ → Result A SnapFault → Result A CasesFault
in_case place (Ok x) = Ok x
in_case place (Err fault) = Err (Snapshot place fault)

-- The tree of the case at a place. A value has no fault of JSON, and none of length: those are the list's.
abbrev pub tree_of : ℕ → Data → Result Document CasesFault
tree_of place snapshot = in_case place (sent_page_of snapshot >>= built)
