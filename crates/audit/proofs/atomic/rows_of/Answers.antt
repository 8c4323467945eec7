use Rattle.std.proofs.Common.{◌∙◌, [], ◌∷◌, ◌++◌, ap, sym, map}
use Rattle.std.proofs.lemmas.Iterator.Adapters.{YieldsList-from_vec}
use Rattle.std.proofs.lemmas.Iterator.Consumers.{YieldsList-end}
use Rattle.std.proofs.lemmas.List.{map-append}
use Rattle.judged_rows.proofs.Merged.{map_id}
use Rattle.audit.proofs.Verdicts.{verdict_row}
use Rattle.audit.proofs.atomic.rows_of.Goals as goal

pub loop-found-preserved : goal.loop-found-preserved
loop-found-preserved c =
    λ js has.
    c.in_ok-push.ensures.items ∙ ap (λ row. c.loop-found.rows.items ++ row ∷ []) (c.in_ok-row.ensures js has)
    ∙ ap (λ rows. rows ++ verdict_row c.args.rule js c.in-Some.found ∷ []) (c.loop-found.invariant js has) ∙ sym (map-append (verdict_row c.args.rule js) c.loop-found.yielded (c.in-Some.found ∷ []))

pub returns : goal.returns
returns c =
    λ js has.
    let verdicts = c.args.verdicts in
    let start = c.into_iter-found-iterator in
    let all = YieldsList-end (YieldsList-from_vec verdicts.items start.ensures.into_iter_gives.0 (start.ensures.into_iter_gives.1 ∙ verdicts.ok.0)) c.loop-found.yielded c.loop-found.found-iterator c.loop-found.yielded_by c.next.result c.next.new.self c.in-None.is c.next.ensures.steps in
    c.loop-found.invariant js has ∙ ap (map (verdict_row c.args.rule js)) (sym (map_id c.loop-found.yielded) ∙ all.0)
