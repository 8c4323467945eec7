use Rattle.std.proofs.Common.{◌≡◌, ◌++◌, drop}
use Rattle.std.specs.List.{flat_map}
use Rattle.std.specs.String.{string_bytes}
use Rattle.rules_more.specs.ShownText.{shown_of}
use Rattle.rules_more.proofs.shown_text.shown_among.Given as goal

abbrev pub invariant-loop-row : goal.invariant-loop-row
invariant-loop-row l = string_bytes l.text ++ flat_map shown_of (drop l.row-index l.rows) ≡ flat_map shown_of l.rows
