use Rattle.std.proofs.Common.{◌≡◌, ◌++◌, length}
use denote.Text.{Utf8}
use denote.Shadow.{shadow}
use Rattle.fixture_pages.specs.Texts.{rows_in}
use Rattle.fixture_pages.proofs.grammar.rows_of.Given as goal

abbrev pub invariant-loop-text : goal.invariant-loop-text
invariant-loop-text l = shadow (Utf8 l.rest) × (l.rows.items ++ rows_in l.rest ≡ rows_in l.fn.text)

abbrev pub decreases-loop-text : goal.decreases-loop-text
decreases-loop-text l = length l.rest
