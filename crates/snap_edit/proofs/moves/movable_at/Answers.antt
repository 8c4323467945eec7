use Rattle.std.proofs.Common.{sym, ◌∙◌}
use Rattle.snap_edit.proofs.Moving.{at_root}
use Rattle.snap_edit.proofs.moves.movable_at.Goals as goal

pub returns-then-is_root-clause-refused : goal.returns-then-is_root-clause-refused
returns-then-is_root-clause-refused c =
    let root = sym c.is_root.ensures ∙ c.if-is_root.true in
    λ f. at_root f c.requires c.in_ok-place.ensures.place c.row_at.ensures root

pub returns-clause-place : goal.returns-clause-place
returns-clause-place c =
    let root = sym c.is_root.ensures ∙ c.if-is_root.false in
    record {
      node = c.in_ok-place.ensures.place;
      follows = λ f. at_root f c.requires c.in_ok-place.ensures.place c.row_at.ensures root;
    }
