use Rattle.std.proofs.Common.{◌≡◌}
use Rattle.std.specs.List.{flat_map}
use Rattle.case_run.specs.Table.{case_line}
use Rattle.case_run.proofs.lines.case_lines.Given as goal

abbrev pub invariant-loop-case : goal.invariant-loop-case
invariant-loop-case l = l.lines.items ≡ flat_map (λ p. case_line l.infos p.0.now p.1.now) l.yielded
