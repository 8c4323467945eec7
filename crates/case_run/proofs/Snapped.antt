-- The tree of a snapshot that is a value.
use Rattle.std.proofs.Common.{Result}
use Rattle.serde_json.specs.Data.{Data}
use Rattle.snap_tree.specs.Trees.{Document}
use Rattle.snap_json.specs.declared.fault.SnapFault.{SnapFault}
use Rattle.snap_json.specs.Faults.{◌>>=◌}
use Rattle.snap_json.specs.Pages.{sent_page_of, built}

abbrev pub snapped : Data → Result Document SnapFault
snapped value = sent_page_of value >>= built
