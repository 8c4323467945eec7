use Rattle.std.proofs.Common.{◌≡◌, ◌++◌, length}
use Rattle.acc_tree.specs.Seen.{seen}
use Rattle.page_changes.specs.Flags.{joined}
use Rattle.page_changes.proofs.flags.all_flags.Given as goal

abbrev pub invariant-loop-marks : goal.invariant-loop-marks
invariant-loop-marks l =
    let old = seen l.pages.old.now.trees in
    let new = seen l.pages.new.now.trees in
    l.flags.items ++ joined old new l.common l.rest l.left ≡ joined old new l.common l.fn.each l.fn.references

abbrev pub decreases-loop-marks : goal.decreases-loop-marks
decreases-loop-marks l = length l.rest
