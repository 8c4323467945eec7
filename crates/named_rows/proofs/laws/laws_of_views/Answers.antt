use Rattle.named_rows.proofs.Views.{at_map, put_map, take_map, with_row_map}
use Rattle.named_rows.proofs.laws.laws_of_views.Goals as goal

pub returns : goal.returns
returns g c = record {
  found = at_map g.T.Named.name g.U.Named.name;
  put = put_map g.T.Named.name g.U.Named.name;
  taken = take_map g.T.Named.name g.U.Named.name;
  changed = with_row_map g.T.Named.name g.U.Named.name;
}
