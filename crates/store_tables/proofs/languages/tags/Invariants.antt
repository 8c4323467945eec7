use Rattle.std.proofs.Common.{◌≡◌, suc, take, Some}
use Rattle.store_tables.specs.Reading.{read_counted}
use Rattle.store_tables.specs.Languages.{language_from}
use Rattle.store_tables.proofs.languages.tags.Given as goal

abbrev pub invariant-loop-row : goal.invariant-loop-row
invariant-loop-row l = (read_counted language_from 1 (take l.row-index l.rows) ≡ Some l.tags.items) × (l.place ≡ suc l.row-index)
