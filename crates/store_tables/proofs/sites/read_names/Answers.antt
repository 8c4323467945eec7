use Rattle.std.proofs.Common.{ℕ, List, IsTrue, All, sym, subst}
use Rattle.std.proofs.lemmas.List.Elements.{All-push}
use Rattle.keep_core.specs.Names.{is_name}
use Rattle.sql_rows.specs.Tables.{name_at}
use Rattle.store_tables.specs.Cells.{named}
use Rattle.store_tables.proofs.Each.{each_stepped}
use Rattle.store_tables.proofs.sites.read_names.Goals as goal

pub loop-row-preserved : goal.loop-row-preserved
loop-row-preserved c = (
  each_stepped (λ r. named (name_at 0 r)) c.args.rows.now c.loop-row.row-index c.row-item.result c.loop-row.names.items c.push.new.self.items c.in_ok-name.field-0
      c.loop-row-test.true c.row-item.is c.loop-row.invariant.0 c.in_ok-name.ensures.reads c.in_ok-push.ensures.items,
  subst (λ names. All (λ (n : List ℕ). IsTrue (is_name n)) names) (sym c.in_ok-push.ensures.items) (All-push (λ (n : List ℕ). IsTrue (is_name n)) c.loop-row.names.items c.in_ok-name.field-0 c.loop-row.invariant.1 c.in_ok-name.ensures.is_name),
)
