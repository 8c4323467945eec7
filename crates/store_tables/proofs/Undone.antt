-- What a change of one group of rows left is what it was before a change back.
use Rattle.std.proofs.Common.{◌≡◌, ℕ, List, [], refl, sym}
use Rattle.sqlite_value.specs.Order.{Row}
use Rattle.named_rows.specs.ByName.{put_row}
use Rattle.sql_rows.specs.Tables.{name_at, rows_of}
use Rattle.sql_rows.specs.Changes.{Changes}
use Rattle.store_statements.specs.Stored.{Stored}
use Rattle.store_tables.proofs.Elsewhere.{StaysElsewhere, put_site_by}

-- the group is as it was
pub undone : (group : List (List ℕ)) (f : List Row → List Row) (old new : List Row) → Changes group f old new → Changes group (λ _. rows_of group old) new old
undone group f old new change = record { there = refl; elsewhere = sym change.elsewhere }

-- the rows of every other site are as they were before a site's row was put
pub site_undone : (site : List ℕ) (old : Stored) (cells : Row) (rows : List Row) → name_at 0 cells ≡ site → Changes [] (put_row (name_at 0) cells) old.sites rows → StaysElsewhere site (record old { sites = rows }) old
site_undone site old cells rows named change =
    let on = put_site_by site old cells rows named change in
    record {
      row = λ m other. sym (on.row m other);
      rows = λ m other. refl;
      members = λ r other there. there;
      pages = λ r other there. there;
      judgements = λ r other there. there;
      outcomes = λ r other there. there;
      languages = λ r other there. there;
    }
