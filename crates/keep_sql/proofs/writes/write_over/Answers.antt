use Rattle.std.proofs.Common.{◌≡◌, ◌++◌, arith, sym, ◌∙◌}
use Rattle.sqlite.specs.Held.{state}
use Rattle.sqlite.specs.State.{HasCleanDisk}
use Rattle.keep_sql.proofs.Wholes.{onward, of_ok, parts}
use Rattle.keep_sql.proofs.Changed.{first_as_long, written_over}
use Rattle.keep_sql.proofs.writes.write_over.Goals as goal

pub returns-clause-makes : goal.returns-clause-makes
returns-clause-makes g c shown clean ready =
    let s0 = state g.S.Store c.args.tx.now.conn.now in
    let s1 = state g.S.Store c.write_each_changed.new.tx.conn.now in
    let s2 = state g.S.Store c.add_outcomes.new.tx.conn.now in
    let clean1 : HasCleanDisk s1 = omega (arith, clean, c.add_outcomes.ensures.steps.survives.clean) in
    let first = of_ok c.write_each_changed.result c.in_ok-write_each_changed.field-0 c.in_ok-write_each_changed.was (c.write_each_changed.ensures.makes clean1 ready) in
    let all : c.args.outcomes.now.rows ≡ c.split_at.result.0.now ++ c.split_at.result.1.now =
    sym c.as_slice.ensures ∙ parts c.as_slice.result.now c.split_at.result.0.now c.split_at.result.1.now _ c.split_at.ensures.front c.split_at.ensures.back in
    onward c.add_outcomes.result
    (written_over c.args.site.now c.args.page.now c.args.kept.now c.args.outcomes.now c.in_ok-next.next c.as_slice-2.result.now c.split_at.result.0.now c.split_at.result.1.now s0 s1 s2 ready shown c.as_slice-2.ensures all
    (first_as_long c.len.result c.args.kept.now.rows c.as_slice.result.now c.args.outcomes.now.rows c.split_at.result.0.now c.len.ensures c.as_slice.ensures c.split_at.ensures.front c.requires.within) c.in_ok-next.ensures first)
    (c.add_outcomes.ensures.makes clean first.ready)
