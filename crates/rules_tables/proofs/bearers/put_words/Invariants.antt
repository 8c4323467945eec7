use Rattle.std.proofs.Common.{◌≡◌, ◌==◌, ◌&&◌, ◌||◌, not, ℕ, List, length}
use Rattle.std.specs.List.{list_any}
use Rattle.std.specs.Str.{bytes_eq}
use denote.Text.{Utf8}
use denote.Shadow.{shadow}
use Rattle.snap_tree.specs.declared.row.NodeId.{NodeId}
use Rattle.texts.specs.Words.{words}
use Rattle.rules_tables.specs.Bearers.{bearer_of, has_other}
use Rattle.rules_tables.proofs.bearers.put_words.Given as goal

abbrev pub invariant-loop-word : goal.invariant-loop-word
invariant-loop-word l =
    shadow (Utf8 l.rest)
    × ((w : List ℕ) (m : NodeId) → (has_other (bearer_of l.bearers w) m || (list_any (bytes_eq w) (words l.rest) && not (l.n.0 == m.0)))
    ≡ (has_other (bearer_of l.fn.bearers w) m || (list_any (bytes_eq w) (words l.text) && not (l.n.0 == m.0))))

abbrev pub decreases-loop-word : goal.decreases-loop-word
decreases-loop-word l = length l.rest
