use Rattle.std.proofs.Common.{◌≡◌, take, Some}
use Rattle.keep_core.specs.Fits.{FitNames}
use Rattle.store_tables.specs.Sites.{names_shown}
use Rattle.store_tables.proofs.sites.read_names.Given as goal

abbrev pub invariant-loop-row : goal.invariant-loop-row
invariant-loop-row l = (names_shown (take l.row-index l.rows) ≡ Some l.names.items) × FitNames l.names.items
