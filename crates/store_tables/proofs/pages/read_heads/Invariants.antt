use Rattle.std.proofs.Common.{◌≡◌, take, Some}
use Rattle.store_tables.specs.Pages.{heads_shown}
use Rattle.store_tables.proofs.pages.read_heads.Given as goal

abbrev pub invariant-loop-row : goal.invariant-loop-row
invariant-loop-row l = heads_shown (take l.row-index l.rows) ≡ Some l.heads.items
