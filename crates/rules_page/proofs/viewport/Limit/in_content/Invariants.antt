use Rattle.std.proofs.Common.{◌≡◌, length}
use denote.Text.{Utf8}
use denote.Shadow.{shadow}
use Rattle.rules_page.specs.Viewport.{pieces, cut_again, last_limits, content_limits}
use Rattle.rules_page.proofs.viewport.Limit.in_content.Given as goal

abbrev pub invariant-loop-part : goal.invariant-loop-part
invariant-loop-part l = shadow (Utf8 l.rest) × (last_limits l.self l.found (cut_again 59 (pieces 44 l.rest)) ≡ content_limits l.self l.content)

abbrev pub decreases-loop-part : goal.decreases-loop-part
decreases-loop-part l = length l.rest
