-- Entries read one after another.
use Rattle.std.proofs.Common.{◌≡◌, suc, List, [], ◌∷◌, length, refl, ap}
use Rattle.serde_json.specs.View.{items_view}
use Rattle.serde_json.specs.declared.value.Value.{Value}
use Rattle.earl_in.specs.Reading.{many}

pub many_view : (vs : List Value) → many (items_view vs) ≡ length vs
many_view [] = refl
many_view (v ∷ vs) = ap suc (many_view vs)
