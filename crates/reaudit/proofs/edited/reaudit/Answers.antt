use Rattle.std.proofs.Common.{◌∙◌, ap, arith}
use Rattle.std.specs.List.{sum_by}
use Rattle.reaudit.specs.Costs.{affected_cost, whole_cost}
use Rattle.reaudit.proofs.Sums.{affected_of_all, whole_of_all}
use Rattle.reaudit.proofs.edited.reaudit.Goals as goal

pub returns-in_err-parts-clause-counted : goal.returns-in_err-parts-clause-counted
returns-in_err-parts-clause-counted g c =
    λ earlier is.
    let book = g.B.RuleBook.book in
    let sum = ap (sum_by (affected_cost book c.args.old.now c.args.new.now)) (c.as_slice.ensures.value ∙ c.in_ok-infos.ensures) ∙ affected_of_all book c.args.old.now c.args.new.now in
    omega (arith, c.parts_again.ensures.counted earlier (c.as_slice-found.ensures ∙ is), sum)

pub returns-in_err-parts-clause-within : goal.returns-in_err-parts-clause-within
returns-in_err-parts-clause-within g c =
    let book = g.B.RuleBook.book in
    let sum = ap (sum_by (whole_cost c.args.new.now)) (c.as_slice.ensures.value ∙ c.in_ok-infos.ensures) ∙ whole_of_all book c.args.new.now in
    omega (arith, c.parts_again.ensures.within, sum)

pub returns-in_err-rows-clause-counted : goal.returns-in_err-rows-clause-counted
returns-in_err-rows-clause-counted g c =
    λ earlier is.
    let book = g.B.RuleBook.book in
    let sum = ap (sum_by (affected_cost book c.args.old.now c.args.new.now)) (c.as_slice.ensures.value ∙ c.in_ok-infos.ensures) ∙ affected_of_all book c.args.old.now c.args.new.now in
    omega (arith, c.parts_again.ensures.counted earlier (c.as_slice-found.ensures ∙ is), sum)

pub returns-in_err-rows-clause-within : goal.returns-in_err-rows-clause-within
returns-in_err-rows-clause-within g c =
    let book = g.B.RuleBook.book in
    let sum = ap (sum_by (whole_cost c.args.new.now)) (c.as_slice.ensures.value ∙ c.in_ok-infos.ensures) ∙ whole_of_all book c.args.new.now in
    omega (arith, c.parts_again.ensures.within, sum)

pub returns-clause-rows : goal.returns-clause-rows
returns-clause-rows g c =
    λ earlier is.
    let book = g.B.RuleBook.book in
    c.from_vec.ensures
    ∙ c.in_ok-rows.ensures book c.args.new.now c.args.js.now g.met.B.RuleBook.strange (record {
      whole = c.in_ok-parts.ensures.infos ∙ c.as_slice.ensures.value ∙ c.in_ok-infos.ensures;
      each = c.in_ok-parts.ensures.parts earlier c.args.js.now (c.as_slice-found.ensures ∙ is) c.in_ok-by_node.ensures;
    })

pub returns-clause-counted : goal.returns-clause-counted
returns-clause-counted g c =
    λ earlier is.
    let book = g.B.RuleBook.book in
    let sum = ap (sum_by (affected_cost book c.args.old.now c.args.new.now)) (c.as_slice.ensures.value ∙ c.in_ok-infos.ensures) ∙ affected_of_all book c.args.old.now c.args.new.now in
    omega (arith, c.parts_again.ensures.counted earlier (c.as_slice-found.ensures ∙ is), sum)

pub returns-clause-within : goal.returns-clause-within
returns-clause-within g c =
    let book = g.B.RuleBook.book in
    let sum = ap (sum_by (whole_cost c.args.new.now)) (c.as_slice.ensures.value ∙ c.in_ok-infos.ensures) ∙ whole_of_all book c.args.new.now in
    omega (arith, c.parts_again.ensures.within, sum)
