use Rattle.std.proofs.Common.{◌∙◌, ap}
use Rattle.std.specs.Slice.Iter.{iter_rest}
use Rattle.std.specs.Iterator.Adapters.{zip_first, zip_second}
use Rattle.std.proofs.lemmas.Iterator.{YieldsList-from_zip, YieldsList-from_slice}
use Rattle.std.proofs.lemmas.Iterator.Consumers.{YieldsList-end}
use Rattle.case_run.specs.Table.{case_line}
use Rattle.case_run.proofs.Pairs.{listed_pairs}
use Rattle.case_run.proofs.lines.case_lines.Goals as goal

pub returns : goal.returns
returns c =
    let cases = c.args.cases.now in
    let beside = c.args.graded.now in
    let first = ap zip_first c.into_iter-case-iterator.ensures.into_iter_gives ∙ c.zip-case-items.ensures.first in
    let second = ap zip_second c.into_iter-case-iterator.ensures.into_iter_gives in
    let one = YieldsList-from_slice cases (ap iter_rest first ∙ c.iter.ensures.rest) in
    let other = YieldsList-from_slice beside (ap iter_rest second ∙ c.zip-case-items.ensures.second.0) in
    let all = YieldsList-end (YieldsList-from_zip one other) c.loop-case.yielded c.loop-case.case-iterator c.loop-case.yielded_by c.next.result c.next.new.self c.in-None.is c.next.ensures.steps in
    c.loop-case.invariant ∙ listed_pairs (λ p. case_line c.args.infos.now p.0 p.1) cases beside c.loop-case.yielded all.0
