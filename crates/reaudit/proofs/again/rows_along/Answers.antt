use Rattle.std.proofs.Common.{◌+◌, [], refl, ◌∙◌, ap, arith}
use Rattle.std.proofs.lemmas.List.{take_all}
use Rattle.std.specs.List.{filter_map}
use Rattle.judge_core.proofs.Lists.{filter_map_more}
use Rattle.judge_core.specs.Outcomes.{atomic_row}
use Rattle.judged_rows.proofs.PartLaws.{on_own}
use Rattle.rule_core.specs.Reach.{is_affected}
use Rattle.reaudit.specs.declared.known.Placed.{Placed}
use Rattle.reaudit.proofs.Along.{leads_here}
use Rattle.reaudit.proofs.Counts.{length-filter-take, count_more}
use Rattle.reaudit.proofs.Kept.{had_each}
use Rattle.reaudit.proofs.Reaching.{known_at}
use Rattle.reaudit.proofs.again.rows_along.Goals as goal

pub loop-it-preserved : goal.loop-it-preserved
loop-it-preserved g c =
    let book = g.B.RuleBook.book in
    let info = c.args.info.now in
    let some = c.args.some.now in
    let new = c.args.new.now in
    let i = c.loop-it.it-index in
    let row = c.head_on-row.result in
    record {
      left = λ old earlier h. (leads_here (atomic_row book old earlier info.no) (on_own book old earlier info.no) some i _ c.loop-it.left.now _ row (omega arith) (c.loop-it.invariant.left old earlier h) c.head_on-row.ensures c.after-left.ensures).1;
      rows = λ old earlier js contained versions p h has.
          let here = leads_here (atomic_row book old earlier info.no) (on_own book old earlier info.no) some i _ c.loop-it.left.now _ row (omega arith) (c.loop-it.invariant.left old earlier h) c.head_on-row.ensures c.after-left.ensures in
          filter_map_more (λ (p : Placed). atomic_row book new js info.no p.node) some i _ [] c.loop-it.rows.items _ (omega arith) (c.loop-it.invariant.rows old earlier js contained versions p h has)
          (c.in_ok-add_found.ensures.row old earlier js contained versions (known_at old new some p i _ (omega arith)) (had_each _ here.0) has);
      counted = λ old js p h.
          let here = leads_here (atomic_row book old js info.no) (on_own book old js info.no) some i _ c.loop-it.left.now _ row (omega arith) (c.loop-it.invariant.left old js h) c.head_on-row.ensures c.after-left.ensures in
          let test = λ (p : Placed). is_affected info (book.means info.no) old new p.node in
          count_more test some i _ _ _ _ (omega arith) (c.loop-it.invariant.counted old js p h)
          (c.add_found.ensures.counted old js (known_at old new some p i _ (omega arith)) (had_each _ here.0));
      within = omega (arith, c.loop-it.invariant.within, c.add_found.ensures.within);
    }

pub returns-in_err-add_found-clause-counted : goal.returns-in_err-add_found-clause-counted
returns-in_err-add_found-clause-counted g c =
    λ old js p h.
    let book = g.B.RuleBook.book in
    let info = c.args.info.now in
    let some = c.args.some.now in
    let new = c.args.new.now in
    let i = c.loop-it.it-index in
    let left = c.loop-it.left.now in
    let here = leads_here (atomic_row book old js info.no) (on_own book old js info.no) some i _ left _ c.head_on-row.result (omega arith) (c.loop-it.invariant.left old js h) c.head_on-row.ensures refl in
    let test = λ (p : Placed). is_affected info (book.means info.no) old new p.node in
    let more = count_more test some i _ (g.B.RuleBook.calls c.args.book.now) (g.B.RuleBook.calls c.loop-it.book) (g.B.RuleBook.calls c.add_found.new.book) (omega arith) (c.loop-it.invariant.counted old js p h)
    (c.add_found.ensures.counted old js (known_at old new some p i _ (omega arith)) (had_each _ here.0)) in
    let cut = length-filter-take test (i + 1) some in
    omega (arith, more, cut)

pub returns-clause-counted : goal.returns-clause-counted
returns-clause-counted g c =
    λ old js p h.
    let book = g.B.RuleBook.book in
    let info = c.args.info.now in
    let some = c.args.some.now in
    let test = λ (p : Placed). is_affected info (book.means info.no) old c.args.new.now p.node in
    let cut = length-filter-take test c.loop-it.it-index some in
    omega (arith, c.loop-it.invariant.counted old js p h, cut)

pub returns-clause-rows : goal.returns-clause-rows
returns-clause-rows g c =
    λ old earlier js contained versions p h has.
    let book = g.B.RuleBook.book in
    let info = c.args.info.now in
    let some = c.args.some.now in
    c.loop-it.invariant.rows old earlier js contained versions p h has
    ∙ ap (filter_map (λ (p : Placed). atomic_row book c.args.new.now js info.no p.node)) (take_all c.loop-it.it-index some (omega arith))
