use Rattle.std.proofs.Common.{◌∙◌, ap, sym, subst, map}
use Rattle.std.specs.List.{zip}
use Rattle.std.specs.Vec.Iter.{into_iter_items, into_iter_len}
use Rattle.std.specs.Iterator.Adapters.{zip_first, zip_second}
use Rattle.std.proofs.lemmas.List.{map-id}
use Rattle.std.proofs.lemmas.Iterator.{YieldsList-from_zip}
use Rattle.std.proofs.lemmas.Iterator.Adapters.{YieldsList-from_vec}
use Rattle.std.proofs.lemmas.Iterator.Consumers.{YieldsList-end}
use Rattle.kept_verdicts.specs.Verdicts.{verdict_of, AreMarked}
use Rattle.kept_verdicts.proofs.MarkSteps.{told}
use Rattle.kept_verdicts.proofs.verdicts.verdicts_of.Goals as goal

pub returns : goal.returns
returns c =
    let js = c.into_vec.result in
    let marks = c.in_ok-marks.marks in
    let first = ap zip_first c.into_iter-judgement-iterator.ensures.into_iter_gives ∙ c.zip-judgement-items.ensures.first in
    let second = ap zip_second c.into_iter-judgement-iterator.ensures.into_iter_gives ∙ c.zip-judgement-items.ensures.second in
    let of_js = YieldsList-from_vec js.items (ap into_iter_items first ∙ c.into_iter.ensures.rest) (ap into_iter_len first ∙ c.into_iter.ensures.len ∙ js.ok.0) in
    let of_marks = YieldsList-from_vec marks.items (ap into_iter_items second ∙ c.into_iter-2.ensures.rest) (ap into_iter_len second ∙ c.into_iter-2.ensures.len ∙ marks.ok.0) in
    let all =
    YieldsList-end (YieldsList-from_zip of_js of_marks) c.loop-judgement.yielded c.loop-judgement.judgement-iterator c.loop-judgement.yielded_by
    c.next.result c.next.new.self c.in-None.is c.next.ensures.steps in
    let marked : AreMarked c.args.rows.now c.args.js marks.items = subst (λ l. AreMarked c.args.rows.now l marks.items) c.as_slice.ensures c.in_ok-marks.ensures in
    c.from_vec.ensures ∙ (c.loop-judgement.invariant ∙ (ap (map verdict_of) (sym (map-id c.loop-judgement.yielded) ∙ all.0)
    ∙ (ap (λ l. map verdict_of (zip l marks.items)) c.into_vec.ensures ∙ told c.args.rows.now c.args.js marks.items marked)))
