use Rattle.std.proofs.Common.{◌≡◌, map, take}
use Rattle.keep_core.specs.Tables.{site_name}
use Rattle.keep_core.proofs.lookups.names_among.Given as goal

abbrev pub invariant-loop-kept : goal.invariant-loop-kept
invariant-loop-kept l = l.names.items ≡ map site_name (take l.kept-index l.sites)
