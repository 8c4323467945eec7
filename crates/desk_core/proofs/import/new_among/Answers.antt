use Rattle.std.proofs.Common.{rules, tests, ◌∙◌, is_none}
use Rattle.std.proofs.lemmas.List.Sums.{length-filter}
use Rattle.std.proofs.lemmas.Iterator.{YieldsList-from_slice}
use Rattle.std.proofs.lemmas.Iterator.Consumers.{YieldsList-from_filter, count_from_yields_List}
use Rattle.desk_core.specs.declared.placed.Placed.{Placed}
use Rattle.desk_core.proofs.import.new_among.Goals as goal

pub returns : goal.returns
returns c =
    count_from_yields_List c.filter.result c.count.result c.count.ensures.ran
    (YieldsList-from_filter _ (λ (w : Placed). is_none w.current) (YieldsList-from_slice c.args.placed.now cc) c.filter.ensures.closure (λ x b q k. search (rules, tests)))
    ∙ length-filter (λ (w : Placed). is_none w.current) c.args.placed.now
