use Rattle.std.proofs.Common.{◌≡◌, ◌+◌, ◌*◌, ◌≤◌, ◌++◌, length, take}
use Rattle.std.specs.List.{flat_map}
use Rattle.std.specs.Vec.{vec_capacity}
use Rattle.http_replies.specs.Made.{after_comma}
use Rattle.http_replies.proofs.made.push_rest.Given as goal

abbrev pub invariant-loop-stored : goal.invariant-loop-stored
invariant-loop-stored l = record {
  printed : l.out.items ≡ l.initial.out.items ++ flat_map after_comma (take l.stored-index l.pages);
  short : length l.out.items ≤ length l.initial.out.items + 260 * l.stored-index;
  kept : vec_capacity l.initial.out ≤ vec_capacity l.out;
}
