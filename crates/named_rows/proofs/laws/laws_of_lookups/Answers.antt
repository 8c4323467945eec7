use Rattle.named_rows.proofs.Lookups.{at_named, at_put, at_put_other, at_with_row, at_with_row_other}
use Rattle.named_rows.proofs.Twice.{put_same, take_absent}
use Rattle.named_rows.proofs.laws.laws_of_lookups.Goals as goal

pub returns : goal.returns
returns g c = record {
  named = at_named g.T.Named.name;
  at_put = at_put g.T.Named.name;
  at_put_other = at_put_other g.T.Named.name;
  at_with_row = at_with_row g.T.Named.name;
  at_with_row_other = at_with_row_other g.T.Named.name;
  put_same = put_same g.T.Named.name;
  taken_absent = take_absent g.T.Named.name;
}
