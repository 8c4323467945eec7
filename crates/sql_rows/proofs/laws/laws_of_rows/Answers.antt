use Rattle.sql_rows.proofs.Letters.{numbers_rise}
use Rattle.sql_rows.proofs.Groups.{put_changes, add_changes, take_changes, drop_changes, other_group, stays, came}
use Rattle.sql_rows.proofs.Reading.{lists, finds}
use Rattle.sql_rows.proofs.laws.laws_of_rows.Goals as goal

pub returns : goal.returns
returns g = record {
  numbers = numbers_rise;
  replaced = put_changes;
  added = add_changes;
  taken = take_changes;
  dropped = drop_changes;
  other_group = λ change group old new changes. other_group group old new changes;
  stays = λ change group old new changes. stays group old new changes;
  came = λ change group old new changes. came group old new changes;
  lists = lists;
  finds = finds;
}
