use Rattle.std.proofs.Common.{refl, sym, ap, ◌∙◌}
use Rattle.rule_core.specs.Books.{Book}
use Rattle.earl_in.specs.Taking.{taken_of}
use Rattle.earl_in.specs.declared.limits.TheConstants.{MOST_CLAIMS}
use Rattle.desk_core.specs.State.{page_state}
use Rattle.desk_core.proofs.Onward.{agrees_as}
use Rattle.desk_core.proofs.JudgeLaws.{few_taken, take_is}
use Rattle.desk_core.proofs.take_earl.decide.Goals as goal

pub added_all-requires : goal.added_all-requires
added_all-requires g c =
    let a = c.args in
    let p = a.kept in
    few_taken c.address-address.result.now p.outcomes.rows c.as_slice.result.now a.caller.now a.claims.now c.in_ok-taken.taken MOST_CLAIMS c.in_ok-taken.ensures c.requires

pub returns-clause-agrees : goal.returns-clause-agrees
returns-clause-agrees g c =
    λ holds.
    let book : Book = g.B.RuleBook.book in
    let a = c.args in
    let p = a.kept in
    let taken = c.in_ok-taken.ensures
    ∙ ap (λ address. taken_of address p.outcomes.rows c.as_slice.result.now a.caller.now a.claims.now) c.address-address.ensures
    ∙ ap (λ js. taken_of p.page.tree.address p.outcomes.rows js a.caller.now a.claims.now) c.as_slice.ensures in
    agrees_as c.added_all.result _ _
    (take_is book a.site a.caller.now a.page a.claims.now p c.in_ok-taken.taken holds (sym c.eq.ensures ∙ c.if-eq.false) taken)
    (c.added_all.ensures.agrees (page_state p) refl holds)
