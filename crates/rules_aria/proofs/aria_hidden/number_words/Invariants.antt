use Rattle.std.proofs.Common.{◌≡◌, map, drop, decimal}
use Rattle.std.specs.String.{string_bytes}
use Rattle.rules_aria.specs.AriaHidden.{number_words}
use Rattle.rules_aria.proofs.Joining.{joined_on}
use Rattle.rules_aria.proofs.aria_hidden.number_words.Given as goal

abbrev pub invariant-loop-n : goal.invariant-loop-n
invariant-loop-n l = joined_on 32 (string_bytes l.words) (map (λ n. decimal n.0) (drop l.n-index l.nodes)) ≡ number_words l.nodes
