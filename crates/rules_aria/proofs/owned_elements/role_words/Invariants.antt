use Rattle.std.proofs.Common.{◌≡◌, map, drop}
use Rattle.std.specs.String.{string_bytes}
use Rattle.aria_tables.specs.Roles.{word_of}
use Rattle.rules_aria.specs.OwnedElements.{role_words}
use Rattle.rules_aria.proofs.Joining.{joined_on}
use Rattle.rules_aria.proofs.owned_elements.role_words.Given as goal

abbrev pub invariant-loop-element : goal.invariant-loop-element
invariant-loop-element l = joined_on 32 (string_bytes l.words) (map (λ o. word_of o.role) (drop l.element-index l.elements)) ≡ role_words l.elements
