use Rattle.std.proofs.Common.{sym, subst, ap, ◌∙◌}
use Rattle.std.specs.Option.{option_copied}
use Rattle.acc_tree.specs.Seen.{seen_row}
use Rattle.rules_tables.specs.Bearers.{HasPut}
use Rattle.rules_tables.proofs.Naming.{id_put, id_blank, id_none}
use Rattle.rules_tables.proofs.table_ids.put_id.Goals as goal

pub returns-in_ok-put : goal.returns-in_ok-put
returns-in_ok-put c =
    id_put c.args.ids.now c.put.new.bearers (seen_row c.args.row.now) c.in-Some.own.now c.in-Some.ensures (sym c.is_empty.ensures ∙ c.if-not-is_empty.true)
    (subst (λ own. HasPut c.args.ids.now c.put.new.bearers own c.args.row.now.id) c.as_str.ensures c.in_ok-put.ensures)

pub returns-else-not-is_empty : goal.returns-else-not-is_empty
returns-else-not-is_empty c =
    id_blank c.args.ids.now (seen_row c.args.row.now) c.in-Some.own.now c.in-Some.ensures (sym c.is_empty.ensures ∙ c.if-not-is_empty.false)

pub returns-in_default : goal.returns-in_default
returns-in_default c = id_none c.args.ids.now (seen_row c.args.row.now) (sym (ap option_copied c.in_default.is) ∙ c.attr.ensures)
