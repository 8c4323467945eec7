use Rattle.std.proofs.Common.{◌≡◌, ◌+◌, ◌++◌, length}
use Rattle.reaudit.specs.Known.{in_order}
use Rattle.reaudit.proofs.known.place_in_order.Given as goal

abbrev pub invariant-loop-flags : goal.invariant-loop-flags
invariant-loop-flags l = record {
  within : l.place + length l.rest ≡ length l.fn.list;
  placed : l.placed.items ++ in_order l.langs l.place l.rest ≡ in_order l.langs 0 l.fn.list;
}

abbrev pub decreases-loop-flags : goal.decreases-loop-flags
decreases-loop-flags l = length l.rest
