use Rattle.std.proofs.Common.{◌∙◌, ap, sym, map}
use Rattle.std.specs.List.{zip}
use Rattle.std.specs.Vec.Iter.{into_iter_items, into_iter_len}
use Rattle.std.specs.Iterator.Adapters.{zip_first, zip_second}
use Rattle.std.proofs.lemmas.List.{map-id}
use Rattle.std.proofs.lemmas.Iterator.{YieldsList-from_zip}
use Rattle.std.proofs.lemmas.Iterator.Adapters.{YieldsList-from_vec}
use Rattle.std.proofs.lemmas.Iterator.Consumers.{YieldsList-end}
use Rattle.desk_core.specs.Placing.{put_of}
use Rattle.desk_core.proofs.built.put_all.Goals as goal

pub returns : goal.returns
returns c =
    let works = c.into_vec.result in
    let outcomes = c.args.outcomes in
    let heads = c.into_vec-2.result in
    let first = ap zip_first c.into_iter-head-iterator.ensures.into_iter_gives ∙ c.zip-head-items.ensures.first in
    let second = ap zip_second c.into_iter-head-iterator.ensures.into_iter_gives ∙ c.zip-head-items.ensures.second in
    let work = ap zip_first second ∙ c.zip-works.ensures.first in
    let outcome = ap zip_second second ∙ c.zip-works.ensures.second in
    let of_heads = YieldsList-from_vec heads.items (ap into_iter_items first ∙ c.into_iter-3.ensures.rest) (ap into_iter_len first ∙ c.into_iter-3.ensures.len ∙ heads.ok.0) in
    let of_works = YieldsList-from_vec works.items (ap into_iter_items work ∙ c.into_iter.ensures.rest) (ap into_iter_len work ∙ c.into_iter.ensures.len ∙ works.ok.0) in
    let of_outcomes = YieldsList-from_vec outcomes.items (ap into_iter_items outcome ∙ c.into_iter-2.ensures.rest) (ap into_iter_len outcome ∙ c.into_iter-2.ensures.len ∙ outcomes.ok.0) in
    let all =
    YieldsList-end (YieldsList-from_zip of_heads (YieldsList-from_zip of_works of_outcomes)) c.loop-head.yielded c.loop-head.head-iterator c.loop-head.yielded_by
    c.next.result c.next.new.self c.in-None.is c.next.ensures.steps in
    c.from_vec.ensures ∙ (c.loop-head.invariant ∙ (ap (map put_of) (sym (map-id c.loop-head.yielded) ∙ all.0)
    ∙ (ap (λ hs. map put_of (zip hs (zip works.items outcomes.items))) c.into_vec-2.ensures
    ∙ ap (λ ws. map put_of (zip c.args.built.heads (zip ws outcomes.items))) c.into_vec.ensures)))
