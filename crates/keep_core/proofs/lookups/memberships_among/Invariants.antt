use Rattle.std.proofs.Common.{◌≡◌, take}
use Rattle.std.specs.List.{filter_map}
use Rattle.keep_core.specs.Members.{membership}
use Rattle.keep_core.proofs.lookups.memberships_among.Given as goal

abbrev pub invariant-loop-kept : goal.invariant-loop-kept
invariant-loop-kept l = l.memberships.items ≡ filter_map (λ s. membership l.user s.site) (take l.kept-index l.sites)
