use Rattle.named_rows.proofs.Order.{in_order_put, in_order_put_rows, in_order_take, in_order_with_row, at_each, at_take, at_take_other}
use Rattle.named_rows.proofs.laws.laws_of_order.Goals as goal

pub returns : goal.returns
returns g c = record {
  put = in_order_put g.T.Named.name;
  put_all = in_order_put_rows g.T.Named.name;
  taken = in_order_take g.T.Named.name;
  changed = in_order_with_row g.T.Named.name;
  at_each = at_each g.T.Named.name;
  at_taken = at_take g.T.Named.name;
  at_other = at_take_other g.T.Named.name;
}
