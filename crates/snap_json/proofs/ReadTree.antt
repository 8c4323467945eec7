-- A tree that was written is read back, with no language subtag.
use Rattle.std.proofs.Common.{◌≡◌, ℕ, ◌≤◌, List, [], length, true, Some, None, Ok, refl, subst, le-leb}
use Rattle.std.specs.List.{AllByRecursion}
use Rattle.web_address.specs.Address.{IsWebAddress}
use Rattle.web_address.proofs.Standing.{stands_for_itself}
use Rattle.snap_tree.specs.Trees.{Document, rows_of, with_langs}
use Rattle.snap_tree.specs.Grown.{grown}
use Rattle.snap_tree.specs.Faults.{tree_fault}
use Rattle.snap_tree.specs.Well.{IsWell}
use Rattle.snap_tree.proofs.Wellness.{well_from_sound}
use Rattle.snap_json.specs.declared.limits.Limits.{Limits}
use Rattle.snap_json.specs.declared.limits.TheConstants.{SENT, KEPT, MOST_SNAPSHOT_BYTES, MOST_ADDRESS_BYTES}
use Rattle.snap_json.specs.Pages.{within, json_of, page_in, tree_in, sent_tree, kept_tree}
use Rattle.snap_json.specs.Small.{IsSmall}
use Rattle.snap_json.specs.Written.{page_data}
use Rattle.snap_json.proofs.ReadBack.{page_back}
use Rattle.snap_json.proofs.Readable.{readable}

tree_back : (limits : Limits) (tree : Document) (bytes : List ℕ)
    → within limits.snapshot (length bytes) ≡ true → within limits.address (length tree.address) ≡ true
    → json_of bytes ≡ Some (page_data tree.address (rows_of tree.trees)) → AllByRecursion IsSmall (rows_of tree.trees)
    → tree_fault (rows_of tree.trees) ≡ None → grown (rows_of tree.trees) ≡ tree.trees → IsWebAddress tree.address
    → tree_in limits bytes ≡ Ok (with_langs tree [])
unfolding tree_in page_in
tree_back limits tree bytes fits short json small sound regrown web =
    let rows = rows_of tree.trees in
    let well = subst IsWell regrown (well_from_sound rows sound) in
    rw (fits, json, page_back limits tree.address rows (stands_for_itself tree.address web) short (readable tree.trees well small), sound, regrown) refl

pub kept_back : (tree : Document) (bytes : List ℕ) → json_of bytes ≡ Some (page_data tree.address (rows_of tree.trees)) → AllByRecursion IsSmall (rows_of tree.trees)
    → tree_fault (rows_of tree.trees) ≡ None → grown (rows_of tree.trees) ≡ tree.trees → IsWebAddress tree.address → kept_tree bytes ≡ Ok (with_langs tree [])
kept_back tree bytes json small sound regrown web = tree_back KEPT tree bytes refl refl json small sound regrown web

pub sent_back : (tree : Document) (bytes : List ℕ) → json_of bytes ≡ Some (page_data tree.address (rows_of tree.trees)) → AllByRecursion IsSmall (rows_of tree.trees)
    → tree_fault (rows_of tree.trees) ≡ None → grown (rows_of tree.trees) ≡ tree.trees → IsWebAddress tree.address
    → length bytes ≤ MOST_SNAPSHOT_BYTES → length tree.address ≤ MOST_ADDRESS_BYTES → sent_tree bytes ≡ Ok (with_langs tree [])
sent_back tree bytes json small sound regrown web fits short =
    tree_back SENT tree bytes (le-leb (length bytes) MOST_SNAPSHOT_BYTES fits) (le-leb (length tree.address) MOST_ADDRESS_BYTES short) json small sound regrown web
