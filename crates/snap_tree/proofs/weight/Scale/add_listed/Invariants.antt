use Rattle.std.proofs.Common.{◌≡◌, ◌+◌, length}
use Rattle.std.specs.List.{sum_by}
use Rattle.std.specs.Option.{option_copied}
use denote.Text.{Utf8}
use denote.Shadow.{shadow}
use Rattle.texts.specs.Words.{words}
use Rattle.snap_tree.specs.Weight.{id_weight, listed}
use Rattle.snap_tree.specs.Weighing.{saturated}
use Rattle.snap_tree.proofs.weight.Scale.add_listed.Given as goal

abbrev pub invariant-loop-id : goal.invariant-loop-id
invariant-loop-id l =
    shadow (Utf8 l.rest) × (l.sum ≡ saturated l.sum) × (saturated (l.sum + sum_by (id_weight l.self) (words l.rest)) ≡ saturated (l.fn.from + sum_by (id_weight l.self) (listed (option_copied l.value))))

abbrev pub decreases-loop-id : goal.decreases-loop-id
decreases-loop-id l = length l.rest
