use Rattle.std.proofs.Common.{◌+◌, List, [], ◌++◌, ◌∙◌, ap, arith}
use Rattle.std.specs.Option.{option_to_list}
use Rattle.std.proofs.lemmas.List.{take_all}
use Rattle.judge_core.specs.declared.outcomes.OutRow.{OutRow}
use Rattle.judge_core.proofs.Lists.{filter_map_more}
use Rattle.reaudit.specs.Relisted.{relisted_row, relisted_rows}
use Rattle.reaudit.proofs.ListChanges.{cost_more, cost_taken}
use Rattle.reaudit.proofs.relisted.rows_relisted.Goals as goal

pub loop-row-preserved : goal.loop-row-preserved
loop-row-preserved g c =
    let book = g.B.RuleBook.book in
    let info = c.args.info.now in
    let own = c.args.own.now in
    record {
      rows = λ js has.
          let more : OutRow → List OutRow = λ row. c.loop-row.rows.items ++ option_to_list (relisted_row book info c.args.new.now js row) in
          filter_map_more (relisted_row book info c.args.new.now js) own c.loop-row.row-index _ [] c.loop-row.rows.items _ (omega arith) (c.loop-row.invariant.rows js has)
          (c.in_ok-add_relisted.ensures.row js has ∙ ap more c.row-item.is);
      counted = cost_more info own c.loop-row.row-index _ _ _ (omega arith) c.loop-row.invariant.counted c.add_relisted.ensures.counted;
    }

pub returns-in_err-add_relisted-clause-counted : goal.returns-in_err-add_relisted-clause-counted
returns-in_err-add_relisted-clause-counted g c =
    let info = c.args.info.now in
    let own = c.args.own.now in
    let more = cost_more info own c.loop-row.row-index (g.B.RuleBook.calls c.args.book.now) (g.B.RuleBook.calls c.loop-row.book) (g.B.RuleBook.calls c.add_relisted.new.book) (omega arith) c.loop-row.invariant.counted c.add_relisted.ensures.counted in
    omega (arith, more, cost_taken info own (c.loop-row.row-index + 1))

pub returns-clause-counted : goal.returns-clause-counted
returns-clause-counted g c = omega (arith, c.loop-row.invariant.counted, cost_taken c.args.info.now c.args.own.now c.loop-row.row-index)

pub returns-clause-rows : goal.returns-clause-rows
returns-clause-rows g c =
    λ js has.
    c.loop-row.invariant.rows js has ∙ ap (relisted_rows g.B.RuleBook.book c.args.info.now c.args.new.now js) (take_all c.loop-row.row-index c.args.own.now (omega arith))
