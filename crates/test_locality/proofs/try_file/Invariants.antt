use denote.Text.{Utf8}
use denote.Shadow.{shadow}
use Rattle.test_locality.proofs.try_file.Given as goal

abbrev pub invariant-loop-line : goal.invariant-loop-line
invariant-loop-line l = shadow (Utf8 l.page) × shadow (Utf8 l.lists)
