use Rattle.std.proofs.Common.{◌≡◌, length}
use denote.Text.{Utf8}
use denote.Shadow.{shadow}
use Rattle.texts.specs.Words.{words}
use Rattle.acc_tree.specs.Seen.{seen}
use Rattle.rules_tables.specs.HeadersReferToCells.{refer_inside}
use Rattle.rules_tables.proofs.headers_refer_to_cells.refer_inside.Given as goal

abbrev pub invariant-loop-word : goal.invariant-loop-word
invariant-loop-word l = shadow (Utf8 l.rest) × (refer_inside (seen l.inside) l.n (words l.rest) ≡ refer_inside (seen l.inside) l.n (words l.text))

abbrev pub decreases-loop-word : goal.decreases-loop-word
decreases-loop-word l = length l.rest
