use Rattle.std.proofs.Common.{◌≡◌, length}
use Rattle.std.specs.List.{list_all}
use denote.Text.{Utf8}
use denote.Shadow.{shadow}
use Rattle.texts.specs.Words.{words}
use Rattle.aria_tables.specs.Tokens.{tokens}
use Rattle.aria_tables.specs.Values.{value_words}
use Rattle.aria_tables.specs.Words.{is_among}
use Rattle.aria_tables.proofs.value.all_own_words.Given as goal

abbrev pub invariant-loop-token : goal.invariant-loop-token
invariant-loop-token l =
    shadow (Utf8 l.rest) × (list_all (is_among (value_words l.attr)) (words l.rest) ≡ list_all (is_among (value_words l.attr)) (tokens l.value))

abbrev pub decreases-loop-token : goal.decreases-loop-token
decreases-loop-token l = length l.rest
