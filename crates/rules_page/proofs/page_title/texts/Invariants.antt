use Rattle.std.proofs.Common.{◌≡◌, ◌++◌}
use Rattle.std.specs.String.{string_bytes}
use Rattle.snap_tree.specs.Trees.{count}
use Rattle.rules_page.specs.PageTitle.{texts}
use Rattle.rules_page.proofs.page_title.texts.Given as goal

abbrev pub invariant-loop-branch : goal.invariant-loop-branch
invariant-loop-branch l = string_bytes l.joined ++ texts l.rest ≡ texts l.fn.trees

abbrev pub decreases-loop-branch : goal.decreases-loop-branch
decreases-loop-branch l = count l.rest
