use Rattle.std.proofs.Common.{◌≡◌, map, take}
use Rattle.keep_core.proofs.lookups.heads_among.Given as goal

abbrev pub invariant-loop-kept : goal.invariant-loop-kept
invariant-loop-kept l = l.heads.items ≡ map (λ p. p.page.head) (take l.kept-index l.pages)
