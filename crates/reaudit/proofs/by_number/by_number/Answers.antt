use Rattle.std.proofs.Common.{length, ◌∙◌, sym, ap, arith}
use Rattle.std.proofs.lemmas.List.{nil_from_length}
use Rattle.std.specs.Option.{option_or}
use Rattle.number_tables.proofs.Filling.{or_none, next_or}
use Rattle.number_tables.specs.Tables.{at}
use Rattle.reaudit.specs.Known.{first_known}
use Rattle.reaudit.proofs.by_number.by_number.Goals as goal

pub loop-flags-preserved : goal.loop-flags-preserved
loop-flags-preserved c = record {
  placed = omega (arith, c.loop-flags.invariant.placed, ap length c.in-Some.ensures.cases.0);
  each = λ n. next_or _ _ _ _ _ (c.in_ok-put.ensures.put n) ∙ ap (λ xs. option_or (at c.loop-flags.table n) (first_known c.loop-flags.place n xs)) (sym c.in-Some.ensures.cases.0) ∙ c.loop-flags.invariant.each n;
}

pub returns : goal.returns
returns c = λ n. or_none _ _ (ap (λ xs. option_or (at c.loop-flags.table n) (first_known c.loop-flags.place n xs)) (sym (nil_from_length c.loop-flags.rest.now c.in_default.ensures.cases)) ∙ c.loop-flags.invariant.each n)
