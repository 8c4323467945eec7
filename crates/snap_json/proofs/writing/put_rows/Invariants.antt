use Rattle.std.proofs.Common.{◌≡◌, ◌++◌, drop, take}
use Rattle.std.specs.List.{AllByRecursion}
use Rattle.snap_json.specs.Small.{IsSmall}
use Rattle.snap_json.specs.Tokens.{list_tokens}
use Rattle.snap_json.specs.Written.{row_data}
use Rattle.snap_json.proofs.writing.put_rows.Given as goal

abbrev pub invariant-loop-row : goal.invariant-loop-row
invariant-loop-row l = record {
  before : l.writer.before ≡ l.initial.writer.before;
  tokens : l.writer.tokens ++ list_tokens row_data (drop l.row-index l.rows) ≡ l.initial.writer.tokens ++ list_tokens row_data l.rows;
  small : AllByRecursion IsSmall (take l.row-index l.rows);
}
