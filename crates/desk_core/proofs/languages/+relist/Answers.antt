use Rattle.std.proofs.Common.{Result}
use Rattle.std.specs.Prelude.{Vec}
use Rattle.std.specs.declared.alloc.Global.{Global}
use Rattle.rule_core.specs.Books.{Book}
use Rattle.keep_core.specs.declared.page.PageOutcomes.{PageOutcomes}
use Rattle.desk_core.specs.declared.refusal.Refusal.{Refusal}
use Rattle.desk_core.specs.declared.refusal.Refusal.TheVariants.{OutOfMemory}
use Rattle.desk_core.specs.Relisting.{Relists}
use Rattle.desk_core.specs.Told.{told_of}
use Rattle.desk_core.proofs.NewLists.{relists_both, relists_failed, relists_later, relists_wanting, costs_both, costs_first}
use Rattle.desk_core.proofs.Onward.{refused_so}
use Rattle.desk_core.proofs.languages.+relist.Goals as goal

pub returns-clause-relists : goal.returns-clause-relists
returns-clause-relists g t c =
    let book : Book = g.B.RuleBook.book in
    let a = c.args in
    relists_both book a.site.now a.languages.now a.new.now c.split_at.result.0.now c.split_at.result.1.now a.heads.now c.split_at.ensures.by_index.0 _ _ _
    c.in_ok-outcomes.outcomes c.in_ok-others.others c.append.new.self c.in_ok-outcomes.ensures.relists c.in_ok-others.ensures.relists c.in_ok-append.ensures.items

pub returns-clause-costs : goal.returns-clause-costs
returns-clause-costs g t c =
    let book : Book = g.B.RuleBook.book in
    let a = c.args in
    costs_both book a.site.now a.languages.now a.new.now c.split_at.result.0.now c.split_at.result.1.now a.heads.now c.split_at.ensures.by_index.0 _ _ _ _ _
    c.in_ok-others.ensures.relists.reads.stays c.in_ok-outcomes.ensures.costs c.in_ok-others.ensures.costs

pub returns-in_err-outcomes-clause-relists : goal.returns-in_err-outcomes-clause-relists
returns-in_err-outcomes-clause-relists g t c =
    let book : Book = g.B.RuleBook.book in
    let a = c.args in
    let P : Result (Vec PageOutcomes Global) Refusal → Type 0 =
    Relists book a.site.now a.languages.now a.new.now a.heads.now (told_of g.K.Keeper a.keeper.now) (told_of g.K.Keeper c.relist_some-2.new.keeper) in
    refused_so P c.from_residual.result c.in_err-outcomes.field-0.0 c.from_residual.ensures.1
    (relists_failed book a.site.now a.languages.now a.new.now c.split_at.result.0.now c.split_at.result.1.now a.heads.now c.split_at.ensures.by_index.0 _ _ _ c.in_err-outcomes.ensures.relists)

pub returns-in_err-outcomes-clause-costs : goal.returns-in_err-outcomes-clause-costs
returns-in_err-outcomes-clause-costs g t c =
    let book : Book = g.B.RuleBook.book in
    let a = c.args in
    costs_first book a.site.now a.languages.now a.new.now c.split_at.result.0.now c.split_at.result.1.now a.heads.now c.split_at.ensures.by_index.0 _ _ _ c.in_err-outcomes.ensures.costs

pub returns-in_err-others-clause-relists : goal.returns-in_err-others-clause-relists
returns-in_err-others-clause-relists g t c =
    let book : Book = g.B.RuleBook.book in
    let a = c.args in
    let P : Result (Vec PageOutcomes Global) Refusal → Type 0 =
    Relists book a.site.now a.languages.now a.new.now a.heads.now (told_of g.K.Keeper a.keeper.now) (told_of g.K.Keeper c.relist.new.keeper) in
    refused_so P c.from_residual-in_err-others.result c.in_err-others.field-0.0 c.from_residual-in_err-others.ensures.1
    (relists_later book a.site.now a.languages.now a.new.now c.split_at.result.0.now c.split_at.result.1.now a.heads.now c.split_at.ensures.by_index.0 _ _ _
    c.in_ok-outcomes.outcomes _ c.in_ok-outcomes.ensures.relists c.in_err-others.ensures.relists)

pub returns-in_err-others-clause-costs : goal.returns-in_err-others-clause-costs
returns-in_err-others-clause-costs g t c =
    let book : Book = g.B.RuleBook.book in
    let a = c.args in
    costs_both book a.site.now a.languages.now a.new.now c.split_at.result.0.now c.split_at.result.1.now a.heads.now c.split_at.ensures.by_index.0 _ _ _ _ _
    c.in_err-others.ensures.relists.reads.stays c.in_ok-outcomes.ensures.costs c.in_err-others.ensures.costs

pub returns-in_err-append-clause-relists : goal.returns-in_err-append-clause-relists
returns-in_err-append-clause-relists g t c =
    let book : Book = g.B.RuleBook.book in
    let a = c.args in
    let P : Result (Vec PageOutcomes Global) Refusal → Type 0 =
    Relists book a.site.now a.languages.now a.new.now a.heads.now (told_of g.K.Keeper a.keeper.now) (told_of g.K.Keeper c.relist.new.keeper) in
    refused_so P c.from_residual-in_err-append.result OutOfMemory c.from_residual-in_err-append.ensures.1
    (relists_wanting book a.site.now a.languages.now a.new.now c.split_at.result.0.now c.split_at.result.1.now a.heads.now c.split_at.ensures.by_index.0 _ _ _
    c.in_ok-outcomes.outcomes c.in_ok-others.others c.in_ok-outcomes.ensures.relists c.in_ok-others.ensures.relists)

pub returns-in_err-append-clause-costs : goal.returns-in_err-append-clause-costs
returns-in_err-append-clause-costs g t c =
    let book : Book = g.B.RuleBook.book in
    let a = c.args in
    costs_both book a.site.now a.languages.now a.new.now c.split_at.result.0.now c.split_at.result.1.now a.heads.now c.split_at.ensures.by_index.0 _ _ _ _ _
    c.in_ok-others.ensures.relists.reads.stays c.in_ok-outcomes.ensures.costs c.in_ok-others.ensures.costs
