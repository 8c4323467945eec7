use Rattle.std.proofs.Common.{Ok, Err, ap, ◌+◌, ◌∙◌, subst}
use Rattle.rule_core.specs.Books.{Book}
use Rattle.desk_core.specs.Placing.{heads_from}
use Rattle.desk_core.specs.Building.{Builds}
use Rattle.desk_core.proofs.ImportLaws.{agrees_there, refused_fault, counted_there}
use Rattle.desk_core.proofs.Onward.{agrees_so}
use Rattle.desk_core.proofs.import.import_there.Goals as goal

pub returns-clause-decided : goal.returns-clause-decided
returns-clause-decided g c =
    let book : Book = g.B.RuleBook.book in
    let at = c.args.arrival in
    let built = subst (λ ws. Builds ws (Ok c.in_ok-works.works)) (c.from_vec-placed.ensures.items ∙ c.into_vec.ensures) c.in_ok-works.ensures in
    let heads = c.in_ok-heads.ensures ∙ ap (heads_from c.args.caller.now at.counter) c.as_slice.ensures in
    agrees_there book c.args.site at.languages c.args.caller.now at.counter at.pages at.placed c.store_all.result _ c.in_ok-heads.heads c.from_vec-works.result
    c.requires.room c.requires.revisions c.requires.fresh built.whole (ap (λ n. at.counter + n) c.len.ensures) heads (c.from_vec-works.ensures ∙ built.works)
    c.store_all.ensures.decided

pub returns-clause-counted : goal.returns-clause-counted
returns-clause-counted g c =
    let book : Book = g.B.RuleBook.book in
    let built = subst (λ ws. Builds ws (Ok c.in_ok-works.works)) (c.from_vec-placed.ensures.items ∙ c.into_vec.ensures) c.in_ok-works.ensures in
    counted_there book c.args.arrival.placed c.from_vec-works.result _ _ built.whole (c.from_vec-works.ensures ∙ built.works) c.store_all.ensures.counted

pub returns-in_err-works-clause-decided : goal.returns-in_err-works-clause-decided
returns-in_err-works-clause-decided g c =
    let book : Book = g.B.RuleBook.book in
    let at = c.args.arrival in
    let built = subst (λ ws. Builds ws (Err c.in_err-works.field-0.0)) (c.from_vec-placed.ensures.items ∙ c.into_vec.ensures) c.in_err-works.ensures in
    agrees_so ⊥ c.from_residual-in_err-works.result _ c.in_err-works.field-0.0 c.from_residual-in_err-works.ensures.1
    (refused_fault book c.args.site at.languages c.args.caller.now at.counter at.pages at.placed c.in_err-works.field-0.0 c.requires.room c.requires.revisions c.requires.fresh built.refused)
