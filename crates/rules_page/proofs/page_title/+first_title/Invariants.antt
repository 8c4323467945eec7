use Rattle.std.proofs.Common.{◌≡◌, ◌≤◌}
use Rattle.snap_tree.specs.Trees.{count}
use Rattle.rules_page.specs.PageTitle.{first_title}
use Rattle.rules_page.proofs.page_title.+first_title.Given as goal

abbrev pub decreases-first_title : goal.decreases-first_title
decreases-first_title l = count l.trees

abbrev pub invariant-loop-branch : goal.invariant-loop-branch
invariant-loop-branch l = (first_title l.rest ≡ first_title l.fn.trees) × (count l.rest ≤ count l.fn.trees)

abbrev pub decreases-loop-branch : goal.decreases-loop-branch
decreases-loop-branch l = count l.rest
