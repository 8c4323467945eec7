use Rattle.std.proofs.Common.{◌≡◌, length}
use denote.Text.{Utf8}
use denote.Shadow.{shadow}
use Rattle.rules_page.specs.Viewport.{pieces, last_limits}
use Rattle.rules_page.proofs.viewport.Limit.between_semicolons.Given as goal

abbrev pub invariant-loop-part : goal.invariant-loop-part
invariant-loop-part l = shadow (Utf8 l.rest) × (last_limits l.self l.found (pieces 59 l.rest) ≡ last_limits l.self l.fn.earlier (pieces 59 l.text))

abbrev pub decreases-loop-part : goal.decreases-loop-part
decreases-loop-part l = length l.rest
