use Rattle.std.proofs.Common.{List, ◌∷◌, [], ◌++◌, map, take, ap, sym, ◌∙◌}
use Rattle.std.proofs.lemmas.List.{map_more}
use Rattle.desk_core.specs.declared.reply.Stored.{Stored}
use Rattle.desk_core.specs.Pages.{stored_by}
use Rattle.desk_core.proofs.store.stored_each.Goals as goal

pub loop-put-preserved : goal.loop-put-preserved
loop-put-preserved c =
    let pages = c.args.pages.now in
    let i = c.loop-put.put-index in
    let said = stored_by c.args.infos.now in
    c.in_ok-push.ensures.items
    ∙ (ap (λ (told : List Stored). told ++ c.in_ok-stored_by.field-0 ∷ []) c.loop-put.invariant
    ∙ (ap (λ (s : Stored). map said (take i pages) ++ s ∷ []) (c.in_ok-stored_by.ensures ∙ ap said c.put-item.is)
    ∙ sym (map_more said pages i c.put-item.result c.loop-put-test.true)))
