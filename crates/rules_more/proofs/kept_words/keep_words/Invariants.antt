use Rattle.std.proofs.Common.{◌≡◌, ◌||◌, ℕ, List, length}
use Rattle.std.specs.List.{list_any}
use Rattle.std.specs.Str.{bytes_eq}
use denote.Text.{Utf8}
use denote.Shadow.{shadow}
use Rattle.texts.specs.Words.{words}
use Rattle.rules_more.specs.KeptWords.{has_kept}
use Rattle.rules_more.proofs.kept_words.keep_words.Given as goal

abbrev pub invariant-loop-word : goal.invariant-loop-word
invariant-loop-word l =
    shadow (Utf8 l.rest)
    × ((w : List ℕ) → (has_kept l.kept w || list_any (bytes_eq w) (words l.rest)) ≡ (has_kept l.fn.kept w || list_any (bytes_eq w) (words l.text)))

abbrev pub decreases-loop-word : goal.decreases-loop-word
decreases-loop-word l = length l.rest
