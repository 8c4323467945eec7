-- A token that is too short doesn't begin so.
use Rattle.std.proofs.Common.{◌≡◌, ◌<◌, ℕ, List, length, take, false, sym, arith}
use Rattle.std.proofs.lemmas.Bool.{false_from_ne_true, eqb-true}
use Rattle.std.proofs.lemmas.List.{length-take}
use Rattle.aria_tables.proofs.Lengths.{same_folded-length}
use Rattle.rules_aria.specs.Token.{begins}

pub too_short : (front token : List ℕ) → length token < length front → false ≡ begins front token
too_short front token h =
    sym (false_from_ne_true _ (λ e. let n : length front ≡ length (take (length front) token) = eqb-true _ _ (same_folded-length (take (length front) token) front e) in omega (arith, n, length-take (length front) token)))
