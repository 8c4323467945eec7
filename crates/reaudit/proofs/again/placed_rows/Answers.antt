use Rattle.std.proofs.Common.{◌+◌, [], ◌∙◌, ap, arith}
use Rattle.std.proofs.lemmas.List.{take_all}
use Rattle.std.specs.List.{filter_map}
use Rattle.judge_core.proofs.Lists.{filter_map_more}
use Rattle.judge_core.specs.Outcomes.{atomic_row}
use Rattle.rule_core.specs.Reach.{is_affected}
use Rattle.reaudit.specs.declared.known.Placed.{Placed}
use Rattle.reaudit.proofs.Counts.{length-filter-take, count_more}
use Rattle.reaudit.proofs.Reaching.{known_at}
use Rattle.reaudit.proofs.again.placed_rows.Goals as goal

pub loop-it-preserved : goal.loop-it-preserved
loop-it-preserved g c =
    let book = g.B.RuleBook.book in
    let info = c.args.info.now in
    let some = c.args.some.now in
    record {
      rows = λ old earlier js contained versions p w has.
          filter_map_more (λ (p : Placed). atomic_row book c.args.new.now js info.no p.node) some c.loop-it.it-index _ [] c.loop-it.rows.items _ (omega arith) (c.loop-it.invariant.rows old earlier js contained versions p w has)
          (c.in_ok-add_row.ensures.row old earlier js contained versions (known_at old c.args.new.now some p c.loop-it.it-index _ (omega arith)) w has);
      counted = λ old js p w.
          count_more (λ (p : Placed). is_affected info (book.means info.no) old c.args.new.now p.node) some c.loop-it.it-index _ _ _ _ (omega arith)
          (c.loop-it.invariant.counted old js p w) (c.add_row.ensures.counted old js (known_at old c.args.new.now some p c.loop-it.it-index _ (omega arith)) w);
      within = omega (arith, c.loop-it.invariant.within, c.add_row.ensures.within);
    }

pub returns-in_err-add_row-clause-counted : goal.returns-in_err-add_row-clause-counted
returns-in_err-add_row-clause-counted g c =
    λ old js p w.
    let book = g.B.RuleBook.book in
    let info = c.args.info.now in
    let some = c.args.some.now in
    let test = λ (p : Placed). is_affected info (book.means info.no) old c.args.new.now p.node in
    let more = count_more test some c.loop-it.it-index _ (g.B.RuleBook.calls c.args.book.now) (g.B.RuleBook.calls c.loop-it.book) (g.B.RuleBook.calls c.add_row.new.book) (omega arith)
    (c.loop-it.invariant.counted old js p w) (c.add_row.ensures.counted old js (known_at old c.args.new.now some p c.loop-it.it-index _ (omega arith)) w) in
    let cut = length-filter-take test (c.loop-it.it-index + 1) some in
    omega (arith, more, cut)

pub returns-clause-counted : goal.returns-clause-counted
returns-clause-counted g c =
    λ old js p w.
    let book = g.B.RuleBook.book in
    let info = c.args.info.now in
    let some = c.args.some.now in
    let test = λ (p : Placed). is_affected info (book.means info.no) old c.args.new.now p.node in
    let cut = length-filter-take test c.loop-it.it-index some in
    omega (arith, c.loop-it.invariant.counted old js p w, cut)

pub returns-clause-rows : goal.returns-clause-rows
returns-clause-rows g c =
    λ old earlier js contained versions p w has.
    let book = g.B.RuleBook.book in
    let info = c.args.info.now in
    let some = c.args.some.now in
    c.loop-it.invariant.rows old earlier js contained versions p w has
    ∙ ap (filter_map (λ (p : Placed). atomic_row book c.args.new.now js info.no p.node)) (take_all c.loop-it.it-index some (omega arith))
