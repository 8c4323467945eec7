use Rattle.std.proofs.Common.{None, ◌∙◌, ap}
use Rattle.snap_tree.specs.Grown.{grown}
use Rattle.snap_tree.specs.Labelling.{labels_around}
use Rattle.snap_tree.proofs.Wellness.{shaped}
use Rattle.snap_tree.proofs.Labelled.{outer_labels}
use Rattle.snap_tree.proofs.index.Index.of.Goals as goal

pub returns : goal.returns
returns c = record {
  sized = c.in_ok-sizes.ensures;
  placed = c.requires.placed;
  ids = c.in_ok-ids.ensures;
  fors = c.in_ok-fors.ensures;
  outer = c.in_ok-outer.ensures ∙ ap (labels_around None) c.over.ensures ∙ outer_labels (grown c.args.rows.now) (shaped c.args.rows.now c.requires.sound).apart;
}
