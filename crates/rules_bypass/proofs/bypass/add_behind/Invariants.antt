use Rattle.std.proofs.Common.{◌≡◌, ◌++◌, drop}
use Rattle.std.specs.String.{string_bytes}
use Rattle.rules_bypass.specs.Bypass.{behind}
use Rattle.rules_bypass.proofs.bypass.add_behind.Given as goal

abbrev pub invariant-loop-line : goal.invariant-loop-line
invariant-loop-line l = string_bytes l.text ++ behind (drop l.line-index l.lines) ≡ string_bytes l.fn.text ++ behind l.fn.lines
