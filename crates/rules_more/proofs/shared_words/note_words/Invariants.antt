use Rattle.std.proofs.Common.{◌≡◌, ◌||◌, ℕ, List, length}
use Rattle.std.specs.List.{list_any}
use Rattle.std.specs.Str.{bytes_eq}
use denote.Text.{Utf8}
use denote.Shadow.{shadow}
use Rattle.texts.specs.Words.{words}
use Rattle.rules_more.specs.SharedWords.{has_word}
use Rattle.rules_more.proofs.shared_words.note_words.Given as goal

abbrev pub invariant-loop-word : goal.invariant-loop-word
invariant-loop-word l =
    shadow (Utf8 l.rest)
    × ((w : List ℕ) → (has_word l.noted w || list_any (bytes_eq w) (words l.rest)) ≡ (has_word l.fn.noted w || list_any (bytes_eq w) (words l.text)))

abbrev pub decreases-loop-word : goal.decreases-loop-word
decreases-loop-word l = length l.rest
