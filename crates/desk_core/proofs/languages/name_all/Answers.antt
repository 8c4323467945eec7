use Rattle.std.proofs.Common.{◌≡◌, List, [], ◌∷◌, map, refl, ap, sym, ◌∙◌}
use Rattle.std.specs.Vec.Iter.{into_iter_items, into_iter_len}
use Rattle.std.specs.Slice.Iter.{iter_rest}
use Rattle.std.specs.Iterator.Adapters.{zip_first, zip_second}
use Rattle.std.proofs.lemmas.Iterator.{YieldsList-from_slice, YieldsList-from_zip}
use Rattle.std.proofs.lemmas.Iterator.Adapters.{YieldsList-from_vec}
use Rattle.std.proofs.lemmas.Iterator.Consumers.{YieldsList-end}
use Rattle.desk_core.specs.Relisting.{outcomes_named}
use Rattle.desk_core.proofs.languages.name_all.Goals as goal

maps_both : {X Y Z : Type 0} (f : Y → Z) (g : X → Y) (xs : List X) → map (λ x. f (g x)) xs ≡ map f (map g xs)
maps_both f g [] = refl
maps_both f g (x ∷ xs) = ap (λ ys. f (g x) ∷ ys) (maps_both f g xs)

pub returns : goal.returns
returns c =
    let heads = c.args.heads.now in
    let outcomes = c.args.outcomes in
    let first = ap zip_first c.into_iter-head-iterator.ensures.into_iter_gives ∙ c.zip-head-items.ensures.first in
    let second = ap zip_second c.into_iter-head-iterator.ensures.into_iter_gives ∙ c.zip-head-items.ensures.second in
    let of_heads = YieldsList-from_slice heads (ap iter_rest first ∙ c.iter.ensures.rest) in
    let of_outcomes = YieldsList-from_vec outcomes.items (ap into_iter_items second ∙ c.into_iter.ensures.rest) (ap into_iter_len second ∙ c.into_iter.ensures.len ∙ outcomes.ok.0) in
    let all =
    YieldsList-end (YieldsList-from_zip of_heads of_outcomes) c.loop-head.yielded c.loop-head.head-iterator c.loop-head.yielded_by
    c.next.result c.next.new.self c.in-None.is c.next.ensures.steps in
    c.loop-head.invariant ∙ (maps_both outcomes_named _ c.loop-head.yielded ∙ ap (map outcomes_named) all.0)
