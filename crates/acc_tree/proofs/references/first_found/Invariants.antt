use Rattle.std.proofs.Common.{◌≡◌, ◌≤◌, length}
use denote.Text.{Utf8}
use denote.Shadow.{shadow}
use Rattle.texts.specs.Words.{words}
use Rattle.acc_tree.specs.Seen.{seen}
use Rattle.acc_tree.specs.References.{found}
use Rattle.acc_tree.proofs.references.first_found.Given as goal

abbrev pub invariant-loop-word : goal.invariant-loop-word
invariant-loop-word l =
    shadow (Utf8 l.rest) × (length l.rest ≤ length l.text) × (found (seen l.tree.trees) (words l.rest) ≡ found (seen l.tree.trees) (words l.text))

abbrev pub decreases-loop-word : goal.decreases-loop-word
decreases-loop-word l = length l.rest
