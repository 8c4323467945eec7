use Rattle.std.proofs.Common.{◌∙◌, ap, sym, subst, List, ◌++◌, map}
use Rattle.std.specs.List.{flat_map}
use Rattle.std.specs.Vec.Iter.{into_iter_items, into_iter_len}
use Rattle.std.specs.Iterator.Adapters.{zip_first, zip_second}
use Rattle.std.proofs.lemmas.Iterator.{YieldsList-from_zip}
use Rattle.std.proofs.lemmas.Iterator.Adapters.{YieldsList-from_vec}
use Rattle.std.proofs.lemmas.Iterator.Consumers.{YieldsList-end}
use Rattle.judge_core.specs.declared.outcomes.OutRow.{OutRow}
use Rattle.judged_rows.specs.declared.parts.RulePart.{RulePart}
use Rattle.judged_rows.specs.Parts.{AreParts}
use Rattle.judged_rows.proofs.Merged.{map_id}
use Rattle.judged_rows.proofs.PartLaws.{whole, merged_of}
use Rattle.judged_rows.proofs.parts.joined_parts.Goals as goal

pub returns : goal.returns
returns c =
    λ book page js says are.
    let parts = c.args.parts in
    let merged = c.in_ok-merged.merged in
    let first = ap zip_first c.into_iter-part-iterator.ensures.into_iter_gives ∙ c.zip-part-items.ensures.first in
    let second = ap zip_second c.into_iter-part-iterator.ensures.into_iter_gives ∙ c.zip-part-items.ensures.second in
    let one = YieldsList-from_vec parts.items (ap into_iter_items first ∙ c.into_iter.ensures.rest) (ap into_iter_len first ∙ c.into_iter.ensures.len ∙ parts.ok.0) in
    let other = YieldsList-from_vec merged.items (ap into_iter_items second ∙ c.into_iter-2.ensures.rest) (ap into_iter_len second ∙ c.into_iter-2.ensures.len ∙ merged.ok.0) in
    let all = YieldsList-end (YieldsList-from_zip one other) c.loop-part.yielded c.loop-part.part-iterator c.loop-part.yielded_by c.next.result c.next.new.self c.in-None.is c.next.ensures.steps in
    let groups = c.in_ok-merged.ensures book page js says (subst (AreParts book page js) (sym c.as_slice.ensures.value) are) ∙ ap (map (merged_of book page js)) c.as_slice.ensures.value in
    c.loop-part.invariant ∙ ap (flat_map (λ (p : RulePart × List OutRow). p.0.rows ++ p.1)) (sym (map_id c.loop-part.yielded) ∙ all.0) ∙ whole book page js parts.items merged.items are groups
