use Rattle.std.proofs.Common.{◌≡◌, length}
use denote.Text.{Utf8}
use denote.Shadow.{shadow}
use Rattle.texts.specs.Words.{words}
use Rattle.acc_tree.specs.Seen.{seen}
use Rattle.page_changes.specs.References.{words_same}
use Rattle.page_changes.proofs.references.words_same.Given as goal

abbrev pub invariant-loop-word : goal.invariant-loop-word
invariant-loop-word l =
    shadow (Utf8 l.rest)
    × (words_same (seen l.pages.old.now.trees) (seen l.pages.new.now.trees) (words l.rest) ≡ words_same (seen l.pages.old.now.trees) (seen l.pages.new.now.trees) (words l.text))

abbrev pub decreases-loop-word : goal.decreases-loop-word
decreases-loop-word l = length l.rest
