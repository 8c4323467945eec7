use Rattle.std.proofs.Common.{◌≡◌, map, length}
use denote.Text.{Utf8}
use denote.Shadow.{shadow}
use Rattle.texts.specs.Words.{words}
use Rattle.acc_tree.specs.References.{found}
use Rattle.acc_tree.specs.Seen.{seen}
use Rattle.acc_name.specs.Names.{joined, referred}
use Rattle.acc_name.specs.Voices.{text_in}
use Rattle.acc_name.proofs.Hearing.{all_joined}
use Rattle.acc_name.proofs.following.all_named.Given as goal

abbrev pub invariant-loop-m : goal.invariant-loop-m
invariant-loop-m l =
    shadow (Utf8 l.rest)
    × (joined (text_in l.so_far) (all_joined (map (referred (seen l.tree.trees) l.node) (found (seen l.tree.trees) (words l.rest))))
    ≡ all_joined (map (referred (seen l.tree.trees) l.node) (found (seen l.tree.trees) (words l.text))))

abbrev pub decreases-loop-m : goal.decreases-loop-m
decreases-loop-m l = length l.rest
